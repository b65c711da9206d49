-- `cells::listing::listed`: with no word passed, no cell stands in the array.
use Rattle.std.proofs.Common.{refl}
use Rattle.spec.specs.Limits.{grant_limit}
use Rattle.cells.specs.KernelList.{none_listed}
use Rattle.cells.proofs.listing.listed.Goals as goal

pub loop-i-init : goal.loop-i-init
unfolding grant_limit
loop-i-init c = none_listed _ grant_limit refl
