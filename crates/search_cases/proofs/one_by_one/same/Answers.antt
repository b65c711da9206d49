-- `one_by_one::same`: each count and each part of a state that differs tells the runs apart, and behind all others the
-- best placements tell.
use Rattle.search_cases.specs.Crown.{grants}
use Rattle.search_cases.specs.Same.{told_apart, same_depth}
use Rattle.search_cases.proofs.one_by_one.same.Goals as goal

pub returns-then-at-place : goal.returns-then-at-place
returns-then-at-place c = told_apart (λ e. c.if-at-place.true (same_depth c.args.a c.args.b grants e))
