-- `show::set_bits`: each word adds at most as many as it has positions.
use Rattle.std.proofs.Common.{◌*◌, ◌≤◌}
use Rattle.bits.specs.Bit.{word_bits}
use Rattle.sheet_cases.proofs.show.set_bits.Given as goal

abbrev pub invariant-loop-i : goal.invariant-loop-i
invariant-loop-i l = l.total ≤ word_bits * l.i
