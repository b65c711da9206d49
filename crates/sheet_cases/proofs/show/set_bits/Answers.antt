-- `show::set_bits`: each word adds at most as many as it has positions.
use Rattle.std.proofs.Common.{◌≤◌, arith}
use Rattle.bits.specs.Bit.{bit, word_bits}
use Rattle.bits.specs.Laws.Count.{count_below_le}
use Rattle.sheet_cases.proofs.show.set_bits.Goals as goal

-- a word has at most as many bits as positions
few : (c : goal.After-count-total) → c.count-total.result ≤ word_bits
few c = rw c.count-total.ensures (count_below_le word_bits (bit _))

pub overflow_add-total : goal.overflow_add-total
overflow_add-total c = omega (arith, few c)

pub loop-i-preserved : goal.loop-i-preserved
loop-i-preserved c = omega (arith, few c)
