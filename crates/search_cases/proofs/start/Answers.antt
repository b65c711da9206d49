-- `start`: the first placement is counted, so that the position before the first step stands.
use Rattle.std.proofs.Common.{◌≤◌, arith}
use Rattle.spec.specs.Limits.{search_limit}
use Rattle.search.specs.Laws.Carried.{started_stands}
use Rattle.search_cases.specs.Crown.{users, grants, sizes}
use Rattle.search_cases.proofs.start.Goals as goal

pub returns : goal.returns
unfolding search_limit
returns c =
    let few : grants ≤ search_limit = omega arith in
    rw c.start.ensures (started_stands c.by_user.result users sizes c.by_user.ensures few)
