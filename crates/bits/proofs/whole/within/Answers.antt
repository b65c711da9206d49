-- `whole::within`: the positions that a shares with b are all of a's where `and` leaves a as it is.
use Rattle.bits.specs.Bit.{word_bits}
use Rattle.bits.specs.Laws.Word.{within_test}
use Rattle.bits.proofs.whole.within.Goals as goal

pub returns : goal.returns
returns c = within_test word_bits c.args.a c.args.b c.ranges.a.fits
