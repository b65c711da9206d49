-- `verdict::inside::has_grants`: a word that has a position is the first.
use Rattle.std.proofs.Common.{arith, ◌≡◌, sym, ◌∙◌, below_more}
use Rattle.cell_rows.specs.Rows.{row_words}
use Rattle.verdict.specs.Laws.Inside.{cells_in_word, no_cells_in_words}
use Rattle.verdict.proofs.inside.has_grants.Goals as goal

pub returns-then-has_any : goal.returns-then-has_any
unfolding row_words
returns-then-has_any c =
    sym (cells_in_word c.args.left.now c.args.x.0 c.loop-d.d (omega arith) (sym c.has_any.ensures ∙ c.if-has_any.true))

pub loop-d-preserved : goal.loop-d-preserved
unfolding row_words
loop-d-preserved c = below_more _ _ c.loop-d.invariant (sym c.has_any.ensures ∙ c.if-has_any.false)

pub returns : goal.returns
unfolding row_words
returns c =
    let end : c.loop-d.d ≡ row_words = omega arith in
    sym (no_cells_in_words c.args.left.now c.args.x.0 (rw end at c.loop-d.invariant))
