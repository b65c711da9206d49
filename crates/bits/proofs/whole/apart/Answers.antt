-- `whole::apart`: `and` with the complement keeps the positions of w that others has not.
use lib.Bits.{and_le_l}
use Rattle.bits.specs.Bit.{word_bits}
use Rattle.bits.specs.Laws.Bit.{bit_and_not}
use Rattle.bits.proofs.whole.apart.Goals as goal

pub returns : goal.returns
returns c =
    (and_le_l _ _, bit_and_not word_bits c.args.w c.args.others c.ranges.w.fits c.ranges.others.fits)
