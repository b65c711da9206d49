-- `verdict::domination::row_fits`: in each of the first d words, that of left and that of the row together are within
-- the fitting word.
use Rattle.std.proofs.Common.{◌*◌}
use Rattle.std.proofs.Math.Bool.{So}
use Rattle.spec.specs.Vocabulary.{every_below}
use Rattle.bits.specs.Bit.{word_bits}
use Rattle.verdict.specs.Misfits.{fits_if_in_row}
use Rattle.verdict.proofs.domination.row_fits.Given as goal

abbrev pub invariant-loop-d : goal.invariant-loop-d
invariant-loop-d l = So (every_below (l.d * word_bits) (fits_if_in_row l.rows l.left l.it.0 l.v.0 l.x.0))
