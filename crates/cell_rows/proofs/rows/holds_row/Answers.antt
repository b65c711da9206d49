-- `rows::holds_row`: of each word passed, what is asked is within what the row has. A word where it is not fails the
-- test of all.
use Rattle.std.proofs.Common.{◌≡◌, arith, sym, ◌∙◌}
use Rattle.cell_rows.specs.Rows.{row_words, row_bits}
use Rattle.cell_rows.specs.RowHeld.{held_at}
use Rattle.cell_rows.specs.Laws.EveryWord.{every_next_word, every_word_fails, held_word}
use Rattle.cell_rows.proofs.rows.holds_row.Goals as goal

pub returns-then-not-within : goal.returns-then-not-within
unfolding row_words row_bits
returns-then-not-within c =
    let a = c.args in
    sym (every_word_fails (held_at a.rows.now a.asked.now a.u a.r) c.loop-k.k row_words c.loop-k-test.true
    (sym (held_word a.rows.now a.asked.now a.u a.r c.loop-k.k) ∙ sym c.within.ensures ∙ c.if-not-within.true))

pub loop-k-preserved : goal.loop-k-preserved
unfolding row_words
loop-k-preserved c =
    let a = c.args in
    every_next_word (held_at a.rows.now a.asked.now a.u a.r) c.loop-k.k c.loop-k.invariant
    (sym (held_word a.rows.now a.asked.now a.u a.r c.loop-k.k) ∙ sym c.within.ensures ∙ c.if-not-within.false)

pub returns : goal.returns
unfolding row_words row_bits
returns c =
    let end : c.loop-k.k ≡ row_words = omega arith in
    sym (rw end at c.loop-k.invariant)
