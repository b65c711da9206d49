-- `name_places::permission_places`: the loop notes a field a turn (`FieldsNoted`).
use Rattle.std.specs.Prelude.{Bool}
use Rattle.spec.specs.Limits.{user_limit}
use Rattle.refusal.specs.Laws.PermissionPlaces.{FieldsNoted}
use Rattle.refusal.proofs.name_places.permission_places.Given as goal

abbrev pub invariant-loop-n : goal.invariant-loop-n
invariant-loop-n l = (last : Bool) × FieldsNoted user_limit l.s l.places l.n last l.next.at
