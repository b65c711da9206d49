-- `one_by_one::same_classes`: the grants before i are placed alike.
use Rattle.std.proofs.Common.{◌≡◌}
use Rattle.lists.specs.LatestFirst.{latest_first}
use Rattle.search_cases.proofs.one_by_one.same_classes.Given as goal

abbrev pub invariant-loop-i : goal.invariant-loop-i
invariant-loop-i l = latest_first l.a l.i ≡ latest_first l.b l.i
