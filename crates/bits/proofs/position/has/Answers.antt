-- `position::has`: the shifted word's remainder by 2 is the digit at p, and that is what `bit` tests.
use Rattle.std.proofs.Common.{refl}
use Rattle.bits.specs.Bit.{bit}
use Rattle.bits.proofs.position.has.Goals as goal

pub returns : goal.returns
unfolding bit
returns c = refl
