-- `cover::holds_asked`: of each word passed, what the class asks is within what the user holds. A word where it is not
-- fails the test of all.
use Rattle.std.proofs.Common.{◌≡◌, refl, sym, ◌∙◌, arith}
use Rattle.spec.specs.Vocabulary.{every_below}
use Rattle.cell_rows.specs.Rows.{row_words, row_bits}
use Rattle.cell_rows.specs.RowHeld.{held_at}
use Rattle.cell_rows.specs.Laws.EveryWord.{every_next_word, every_word_fails, held_word}
use Rattle.cover.proofs.cover.holds_asked.Goals as goal

pub loop-j-init : goal.loop-j-init
unfolding every_below
loop-j-init c = refl

pub returns-then-not-within : goal.returns-then-not-within
unfolding row_words row_bits
returns-then-not-within c =
    let a = c.args in
    let told = rw c.word_at-held.ensures at c.within.ensures in
    sym (every_word_fails (held_at a.rows.now a.asked.now a.user.0 a.c) c.loop-j.j row_words (omega arith)
    (sym (told ∙ held_word a.rows.now a.asked.now a.user.0 a.c c.loop-j.j) ∙ c.if-not-within.true))

pub loop-j-preserved : goal.loop-j-preserved
unfolding row_words
loop-j-preserved c =
    let a = c.args in
    let told = rw c.word_at-held.ensures at c.within.ensures in
    every_next_word (held_at a.rows.now a.asked.now a.user.0 a.c) c.loop-j.j c.loop-j.invariant
    (sym (told ∙ held_word a.rows.now a.asked.now a.user.0 a.c c.loop-j.j) ∙ c.if-not-within.false)

pub returns : goal.returns
unfolding row_words row_bits
returns c =
    let end : c.loop-j.j ≡ row_words = omega arith in
    sym (rw end at c.loop-j.invariant)
