-- `first::sum_in_column`: after j words the sum is that of the users of the column below word j.
use Rattle.std.proofs.Common.{◌≡◌, ◌*◌, ◌≤◌, refl, arith}
use Rattle.spec.specs.Limits.{user_limit}
use Rattle.bits.specs.Counting.{sum_below}
use Rattle.bits.specs.Bit.{word_bits}
use Rattle.cell_rows.specs.Rows.{row_words, row_bits}
use Rattle.witness.specs.Laws.FirstCounts.{word_sum_le, gathered_le, gathered_next_word}
use Rattle.witness.proofs.first.sum_in_column.Goals as goal

pub loop-j-init : goal.loop-j-init
unfolding sum_below
loop-j-init c = refl

pub sum_in_word-sum-requires : goal.sum_in_word-sum-requires
unfolding user_limit
sum_in_word-sum-requires c = (omega arith, c.requires.1)

pub overflow_add-sum : goal.overflow_add-sum
unfolding user_limit row_bits row_words
overflow_add-sum c =
    let a = c.args in
    let at = c.loop-j in
    let few : c.sum_in_word-sum.result ≤ word_bits * row_bits =
    rw c.sum_in_word-sum.ensures (word_sum_le a.shares.now c.requires.1 at.j _) in
    omega (arith, few, at.invariant, gathered_le a.shares.now c.requires.1 a.columns.now a.p.0 (at.j * word_bits))

pub loop-j-preserved : goal.loop-j-preserved
unfolding user_limit
loop-j-preserved c =
    let a = c.args in
    let at = c.loop-j in
    omega (arith, at.invariant, c.sum_in_word-sum.ensures, gathered_next_word a.columns.now a.shares.now a.p.0 at.j)

pub returns : goal.returns
unfolding user_limit
returns c =
    let at = c.loop-j in
    let end : at.j * word_bits ≡ user_limit = omega arith in
    rw end at at.invariant
