-- `roles::all_classes`: while i removals are left, going back over them from the classes so far leads to the classes
-- of all grants. Each turn goes back over the latest that is left, and opens at most one class. The class at the cell
-- written last is known, so a grant tied to that one joins it without a look at the array.
use Rattle.std.proofs.Common.{◌≡◌, ◌+◌, ◌≤◌, length, get_or}
use Rattle.verdict.specs.Log.{log_of}
use Rattle.roles.specs.CellClasses.{classes_in}
use Rattle.roles.specs.Laws.GoingBack.{GoingBack}
use Rattle.roles.proofs.classes.all_classes.Given as goal

abbrev pub invariant-loop-i : goal.invariant-loop-i
invariant-loop-i l =
    (l.opened + l.i ≤ l.total + length l.removed) × (l.known ≡ get_or l.class l.last 0)
    × GoingBack l.class l.opened (log_of l.removed l.partner l.i) (classes_in l.kernel l.placed l.removed l.partner)
