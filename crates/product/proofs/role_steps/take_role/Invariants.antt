-- `product::role_steps::take_role`: the words below k have taken the role.
use Rattle.product.specs.Laws.RoleSteps.{RoleTaken}
use Rattle.product.proofs.role_steps.take_role.Given as goal

abbrev pub invariant-loop-k : goal.invariant-loop-k
invariant-loop-k l = RoleTaken l.fn.row l.row l.gives l.role.0 l.owned l.k
