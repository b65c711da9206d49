-- `many_searches`: each search keeps the position standing and makes at most its budget of steps, so that their sum
-- fits. In each search the counts of the kinds add up to the steps, so that their sums add up to the sum of the steps,
-- and fit too. The measure is the number of searches left.
use Rattle.std.proofs.Common.{◌≡◌, ◌+◌, ◌*◌, ◌-◌, ◌≤◌}
use Rattle.search.specs.View.{PositionStands}
use Rattle.search_cases.specs.Crown.{grants, part, most}
use Rattle.search_cases.proofs.many_searches.Given as goal

abbrev pub invariant-loop-searches : goal.invariant-loop-searches
invariant-loop-searches l =
    PositionStands grants l.position
    × (l.placed + l.taken_back + l.closed ≡ l.steps)
    × (l.steps ≤ part * l.searches)
    × (l.searches ≤ most)

abbrev pub decreases-loop-searches : goal.decreases-loop-searches
decreases-loop-searches l = most - l.searches
