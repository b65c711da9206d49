-- `got::roles_got`: the row has those of the roles below r that the user gets.
use Rattle.std.proofs.Common.{◌≡◌, length}
use Rattle.cell_rows.specs.Rows.{row_words}
use Rattle.admitting.specs.RolesGot.{RolesGot}
use Rattle.admitting.proofs.got.roles_got.Given as goal

abbrev pub invariant-loop-r : goal.invariant-loop-r
invariant-loop-r l =
    (length l.got ≡ row_words) × RolesGot l.rows l.gives l.user.0 l.r l.got
