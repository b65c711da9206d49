-- `verdict::inside::in_row`: of the first d words, that of left is within that of the row.
use Rattle.std.proofs.Common.{◌*◌}
use Rattle.std.proofs.Math.Bool.{So}
use Rattle.spec.specs.Vocabulary.{every_below}
use Rattle.bits.specs.Bit.{word_bits}
use Rattle.verdict.specs.Insides.{held_if_left}
use Rattle.verdict.proofs.inside.in_row.Given as goal

abbrev pub invariant-loop-d : goal.invariant-loop-d
invariant-loop-d l = So (every_below (l.d * word_bits) (held_if_left l.rows l.left l.v.0 l.x.0))
