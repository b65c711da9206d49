-- `verdict::inside::in_row`: the test of a word is the test of its permissions.
use Rattle.std.proofs.Common.{arith, ◌≡◌, refl, sym, ◌∙◌}
use Rattle.spec.specs.Vocabulary.{every_below}
use Rattle.cell_rows.specs.Rows.{row_words, row_bits}
use Rattle.cell_rows.specs.Laws.EveryWord.{every_next_word, every_word_fails}
use Rattle.verdict.specs.Insides.{held_if_left}
use Rattle.verdict.specs.Laws.Inside.{in_row_by_word}
use Rattle.verdict.proofs.inside.in_row.Goals as goal

pub loop-d-init : goal.loop-d-init
unfolding every_below
loop-d-init c = refl

pub returns-then-not-within : goal.returns-then-not-within
unfolding row_words row_bits
returns-then-not-within c =
    let a = c.args in
    let word_test = c.within.ensures ∙ in_row_by_word a.rows.now a.left.now a.v.0 a.x.0 c.loop-d.d in
    sym (every_word_fails (held_if_left a.rows.now a.left.now a.v.0 a.x.0) c.loop-d.d row_words (omega arith)
    (sym word_test ∙ c.if-not-within.true))

pub loop-d-preserved : goal.loop-d-preserved
unfolding row_words
loop-d-preserved c =
    let a = c.args in
    let word_test = c.within.ensures ∙ in_row_by_word a.rows.now a.left.now a.v.0 a.x.0 c.loop-d.d in
    every_next_word (held_if_left a.rows.now a.left.now a.v.0 a.x.0) c.loop-d.d c.loop-d.invariant
    (sym word_test ∙ c.if-not-within.false)

pub returns : goal.returns
unfolding row_words row_bits
returns c =
    let end : c.loop-d.d ≡ row_words = omega arith in
    sym (rw end at c.loop-d.invariant)
