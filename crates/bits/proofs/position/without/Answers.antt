-- `position::without`: 1 shifted by p has the position p alone, and `and` with its complement keeps the positions of w
-- that it has not.
use Rattle.std.proofs.Common.{◌^◌, ◌∙◌}
use lib.Pow.{pow-lt}
use Rattle.bits.specs.Bit.{word_bits}
use Rattle.bits.specs.Laws.Bit.{bit_and_not, bit_one_shifted, one_shifted}
use Rattle.bits.proofs.position.without.Goals as goal

pub returns : goal.returns
returns c q =
    rw (one_shifted word_bits c.requires)
    (bit_and_not word_bits c.args.w (2 ^ c.args.p) c.ranges.w.fits (pow-lt c.requires) q
    ∙ rw (bit_one_shifted c.args.p q))
