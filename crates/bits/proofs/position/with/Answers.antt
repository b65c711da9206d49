-- `position::with`: 1 shifted by p has the position p alone, and `or` joins the positions of both words.
use Rattle.std.proofs.Common.{◌^◌, ◌∙◌}
use Rattle.bits.specs.Bit.{word_bits}
use Rattle.bits.specs.Laws.Bit.{bit_of_or, bit_one_shifted, one_shifted}
use Rattle.bits.proofs.position.with.Goals as goal

pub returns : goal.returns
returns c q =
    rw (one_shifted word_bits c.requires) (bit_of_or c.args.w (2 ^ c.args.p) q ∙ rw (bit_one_shifted c.args.p q))
