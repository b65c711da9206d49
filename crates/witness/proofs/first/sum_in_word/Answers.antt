-- `first::sum_in_word`: the sum so far, and what the positions still to come add, make the whole.
use Rattle.std.proofs.Common.{◌+◌, ◌*◌, arith, get_or}
use Rattle.bits.specs.Bit.{word_bits}
use Rattle.cell_rows.specs.Rows.{row_words, row_bits}
use Rattle.fit.specs.Laws.Column.{word_sum_dropped, word_sum_of_none}
use Rattle.witness.specs.Laws.FirstCounts.{word_sum_le}
use Rattle.witness.proofs.first.sum_in_word.Goals as goal

pub overflow_add-sum-in-loop-p : goal.overflow_add-sum-in-loop-p
unfolding row_bits row_words
overflow_add-sum-in-loop-p c =
    let a = c.args in
    omega (
      arith,
      c.loop-p.invariant,
      word_sum_le a.shares.now c.requires.1 a.j a.word,
      c.requires.1 (a.j * word_bits + c.in-Some.p),
    )

pub loop-p-preserved : goal.loop-p-preserved
loop-p-preserved c =
    let a = c.args in
    let taken = c.in-Some.ensures.steps in
    omega (
      arith,
      c.loop-p.invariant,
      word_sum_dropped (λ q. get_or a.shares.now (a.j * word_bits + q) 0) taken.lowest taken.dropped,
    )

pub returns : goal.returns
returns c =
    let a = c.args in
    let all = rw c.in-None.ensures.steps.0 at c.loop-p.invariant in
    omega (arith, all, word_sum_of_none (λ q. get_or a.shares.now (a.j * word_bits + q) 0))
