-- `whole::full`: the positions below n are those of 2 ^ n - 1, and at n = 64 that is the word of ones.
use Rattle.std.proofs.Common.{◌<◌, arith}
use Rattle.bits.specs.Bit.{word_bits}
use Rattle.bits.specs.Laws.Bit.{bit_full, one_shifted}
use Rattle.bits.proofs.whole.full.Goals as goal

pub returns-then-n-eq-WORD_BITS : goal.returns-then-n-eq-WORD_BITS
returns-then-n-eq-WORD_BITS c q = rw c.if-n-eq-WORD_BITS.true (bit_full word_bits q)

pub returns-else-n-eq-WORD_BITS : goal.returns-else-n-eq-WORD_BITS
returns-else-n-eq-WORD_BITS c q =
    let short : c.args.n < word_bits = omega arith in rw (one_shifted word_bits short) (bit_full c.args.n q)
