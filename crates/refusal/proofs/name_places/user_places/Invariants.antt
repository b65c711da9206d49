-- `name_places::user_places`: the loop notes a name a line (`Noting`).
use Rattle.spec.specs.Limits.{user_limit}
use Rattle.refusal.specs.Laws.UserPlaces.{Noting}
use Rattle.refusal.proofs.name_places.user_places.Given as goal

abbrev pub invariant-loop-n : goal.invariant-loop-n
invariant-loop-n l = Noting user_limit l.s l.at l.places l.n l.from
