-- `fit::column::partners_among`: the lowest position that is left is counted next.
use Rattle.std.proofs.Common.{arith, ◌+◌, ◌≤◌}
use Rattle.spec.specs.Limits.{user_limit}
use Rattle.bits.specs.Bit.{bit, word_bits}
use Rattle.bits.specs.Laws.Count.{count_below_le}
use Rattle.cell_rows.specs.Rows.{row_words, row_bits}
use Rattle.fit.specs.Columns.{near_in_row}
use Rattle.fit.specs.Laws.Column.{word_sum_dropped, word_sum_of_none, near_sum_le}
use Rattle.fit.proofs.column.partners_among.Goals as goal

pub returns-then-n-most : goal.returns-then-n-most
returns-then-n-most c = record {
  below = λ l. absurd (omega (arith, l));
  not_more = omega (arith, c.loop-p.invariant);
}

pub overflow_add-n : goal.overflow_add-n
unfolding user_limit row_words row_bits
overflow_add-n c =
    let a = c.args in
    let few : c.near_in_row-n.result ≤ row_bits = rw c.near_in_row-n.ensures (count_below_le row_bits _) in
    omega (
      arith,
      few,
      c.loop-p.invariant,
      near_sum_le a.rows.now a.left.now a.it.0 word_bits (bit a.some) (λ q. a.from + q),
    )

pub loop-p-preserved : goal.loop-p-preserved
loop-p-preserved c =
    let a = c.args in
    let taken = c.in-Some.ensures.steps in
    omega (
      arith,
      c.loop-p.invariant,
      word_sum_dropped (λ q. near_in_row a.rows.now a.left.now a.it.0 (a.from + q)) taken.lowest taken.dropped,
    )

pub returns : goal.returns
returns c =
    let a = c.args in
    let all = rw c.in-None.ensures.steps.0 at c.loop-p.invariant in
    let nothing = word_sum_of_none (λ q. near_in_row a.rows.now a.left.now a.it.0 (a.from + q)) in
    record { below = λ l. omega (arith, all, nothing); not_more = omega (arith, all, nothing) }
