-- `whole::without_lowest`: w - 1 has no longer the lowest position of w, has those below it, which w has not, and
-- agrees above it.
use Rattle.bits.specs.Bit.{word_bits}
use Rattle.bits.specs.Laws.Word.{bit_drop_lowest, drop_lowest_less}
use Rattle.bits.proofs.whole.without_lowest.Goals as goal

pub returns : goal.returns
returns c =
    record { less = drop_lowest_less c.args.w c.requires; others = bit_drop_lowest word_bits c.args.w }
