-- `Witness::none`: as many empty places as there can be roles.
use Rattle.std.proofs.Common.{refl}
use Rattle.spec.specs.Limits.{role_limit}
use Rattle.read_fields.proofs.witness_block.Witness.none.Goals as goal

pub returns : goal.returns
unfolding role_limit
returns c = refl
