-- `whole::lowest`: the zeros below a word's lowest one are as many as the positions below it.
use Rattle.bits.specs.Bit.{word_bits}
use Rattle.bits.specs.Laws.Word.{lowest_trailing}
use Rattle.bits.proofs.whole.lowest.Goals as goal

pub returns : goal.returns
returns c = lowest_trailing word_bits c.args.w c.requires c.ranges.w.fits
