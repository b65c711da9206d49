-- `counts_at`: no more roles than permissions, so that their sum does not wrap.
use Rattle.std.proofs.Common.{arith}
use Rattle.spec.specs.Limits.{permission_limit}
use Rattle.answers.proofs.counts.counts_at.Goals as goal

pub overflow_add-roles : goal.overflow_add-roles
unfolding permission_limit
overflow_add-roles c = omega arith
