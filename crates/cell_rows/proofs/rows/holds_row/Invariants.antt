use Rattle.std.proofs.Common.{◌*◌}
use Rattle.std.proofs.Math.Bool.{So}
use Rattle.spec.specs.Vocabulary.{every_below}
use Rattle.bits.specs.Bit.{word_bits}
use Rattle.cell_rows.specs.RowHeld.{held_at}
use Rattle.cell_rows.proofs.rows.holds_row.Given as goal

-- of each word passed, what is asked is within what the row has
abbrev pub invariant-loop-k : goal.invariant-loop-k
invariant-loop-k l = So (every_below (l.k * word_bits) (held_at l.rows l.asked l.u l.r))
