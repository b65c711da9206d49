-- `cover::holds_asked`: of each word passed, what the class asks is within what the user holds.
use Rattle.std.proofs.Common.{◌*◌}
use Rattle.std.proofs.Math.Bool.{So}
use Rattle.spec.specs.Vocabulary.{every_below}
use Rattle.bits.specs.Bit.{word_bits}
use Rattle.cell_rows.specs.RowHeld.{held_at}
use Rattle.cover.proofs.cover.holds_asked.Given as goal

abbrev pub invariant-loop-j : goal.invariant-loop-j
invariant-loop-j l = So (every_below (l.j * word_bits) (held_at l.rows l.asked l.u l.c))
