-- `first::sum_in_column`: after j words the sum is that of the users of the column below word j.
use Rattle.std.proofs.Common.{◌≡◌, ◌*◌}
use Rattle.bits.specs.Bit.{word_bits}
use Rattle.witness.specs.FirstCounts.{gathered_below}
use Rattle.witness.proofs.first.sum_in_column.Given as goal

abbrev pub invariant-loop-j : goal.invariant-loop-j
invariant-loop-j l = l.sum ≡ gathered_below l.columns l.shares l.p.0 (l.j * word_bits)
