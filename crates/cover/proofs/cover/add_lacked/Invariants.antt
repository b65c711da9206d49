-- `cover::add_lacked`: after j words what the user lacks of their permissions is added to the class.
use Rattle.std.proofs.Common.{◌*◌}
use Rattle.bits.specs.Bit.{word_bits}
use Rattle.cover.specs.CoverWords.{LacksAdded}
use Rattle.cover.proofs.cover.add_lacked.Given as goal

abbrev pub invariant-loop-j : goal.invariant-loop-j
invariant-loop-j l = LacksAdded l.rows l.initial.lacked l.lacked l.c l.u (l.j * word_bits)
