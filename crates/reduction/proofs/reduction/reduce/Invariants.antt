-- `reduction::reduction::reduce`: the sweeps start from all cells of the rows and an empty log. Each sweep but the
-- last removes a grant, so the removals rise, and there is room for no more of them than grants.
use Rattle.std.proofs.Common.{◌-◌}
use Rattle.spec.specs.Limits.{grant_limit}
use Rattle.reduction.specs.WorkAt.{work_at}
use Rattle.reduction.specs.Laws.ReductionSettle.{Settling}
use Rattle.reduction.proofs.reduction.reduce.Given as goal

abbrev pub invariant-loop-work : goal.invariant-loop-work
invariant-loop-work l = Settling l.rows l.users (work_at l.work)

abbrev pub decreases-loop-work : goal.decreases-loop-work
decreases-loop-work l = grant_limit - l.work.count
