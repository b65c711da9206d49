-- `rounds::search_rounds`: at each turn the searches made and those that are still to come are all (`GoingOn`), which
-- one search more keeps. The measure is the number of searches left. The loop ends when there are none, or when the
-- last one was not `open`. The steps of all searches have room in a word: there are fewer searches, and fewer steps in
-- each, than half a word has numbers.
use Rattle.std.proofs.Common.{◌-◌, ◌*◌, ◌≤◌}
use Rattle.spec.specs.Limits.{round_budget}
use Rattle.session.specs.CodeSession.{view, Sound}
use Rattle.rolesearch.specs.Laws.GoingOn.{GoingOn}
use Rattle.rolesearch.proofs.rounds.search_rounds.Given as goal

abbrev pub invariant-loop-searches : goal.invariant-loop-searches
invariant-loop-searches l =
    GoingOn round_budget l.rounds (view l.fn.from) (view l.session) l.searches l.so_far l.goes_on
    × Sound l.session × (l.so_far ≤ l.searches * 4_294_967_295)

abbrev pub decreases-loop-searches : goal.decreases-loop-searches
decreases-loop-searches l = l.rounds - l.searches
