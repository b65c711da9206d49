-- `verdict::domination::row_fits`: the test of a word is the test of its permissions.
use Rattle.std.proofs.Common.{arith, ◌≡◌, refl, sym, ◌∙◌}
use Rattle.spec.specs.Vocabulary.{every_below}
use Rattle.cell_rows.specs.Rows.{row_words, row_bits}
use Rattle.cell_rows.specs.Laws.EveryWord.{every_next_word, every_word_fails}
use Rattle.verdict.specs.Misfits.{fits_if_in_row}
use Rattle.verdict.specs.Laws.Misfit.{row_fits_by_word}
use Rattle.verdict.proofs.domination.row_fits.Goals as goal

pub loop-d-init : goal.loop-d-init
unfolding every_below
loop-d-init c = refl

pub returns-then-not-within : goal.returns-then-not-within
unfolding row_words row_bits
returns-then-not-within c =
    let a = c.args in
    let word_test = c.within.ensures
    ∙ row_fits_by_word a.rows.now a.left.now a.it.0 a.v.0 a.x.0 c.loop-d.d c.fitting.ensures in
    sym (every_word_fails (fits_if_in_row a.rows.now a.left.now a.it.0 a.v.0 a.x.0) c.loop-d.d row_words (omega arith)
    (sym word_test ∙ c.if-not-within.true))

pub loop-d-preserved : goal.loop-d-preserved
unfolding row_words
loop-d-preserved c =
    let a = c.args in
    let word_test = c.within.ensures
    ∙ row_fits_by_word a.rows.now a.left.now a.it.0 a.v.0 a.x.0 c.loop-d.d c.fitting.ensures in
    every_next_word (fits_if_in_row a.rows.now a.left.now a.it.0 a.v.0 a.x.0) c.loop-d.d c.loop-d.invariant
    (sym word_test ∙ c.if-not-within.false)

pub returns : goal.returns
unfolding row_words row_bits
returns c =
    let end : c.loop-d.d ≡ row_words = omega arith in
    sym (rw end at c.loop-d.invariant)
