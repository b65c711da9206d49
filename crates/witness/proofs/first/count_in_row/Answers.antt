-- `first::count_in_row`: the words of the row are passed one after the other.
use Rattle.std.proofs.Common.{◌≡◌, ◌∙◌, arith}
use Rattle.cell_rows.specs.Rows.{row_words}
use Rattle.witness.specs.Laws.FitCounts.{row_goes_on, row_ends}
use Rattle.witness.proofs.first.count_in_row.Goals as goal

pub count_in_word-requires : goal.count_in_word-requires
unfolding row_words
count_in_word-requires c =
    (c.requires.0, omega arith, c.loop-k.invariant.sized ∙ c.requires.1, c.requires.2)

pub loop-k-preserved : goal.loop-k-preserved
unfolding row_words
loop-k-preserved c =
    let a = c.args in
    let at = c.loop-k in
    row_goes_on a.v.0 a.row.now _ at.k _ at.counts _ (omega arith) at.invariant c.count_in_word.ensures

pub returns : goal.returns
unfolding row_words
returns c =
    let a = c.args in
    let at = c.loop-k in
    let end : at.k ≡ row_words = omega arith in
    row_ends a.v.0 a.row.now _ _ _ (rw end at at.invariant)
