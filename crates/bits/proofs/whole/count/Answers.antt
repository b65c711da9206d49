-- `whole::count`: a word below 2 ^ 64 has as many ones as positions below 64 that it has.
use Rattle.bits.specs.Bit.{word_bits}
use Rattle.bits.specs.Laws.Word.{ones_count}
use Rattle.bits.proofs.whole.count.Goals as goal

pub returns : goal.returns
returns c = ones_count word_bits c.args.w c.ranges.w.fits
