-- `users_block::expect_roles`: the names of the roles below r stand there.
use Rattle.steps.specs.Stands.{Stands}
use Rattle.form.specs.Pieces.{role_fields}
use Rattle.read_rows.proofs.users_block.expect_roles.Given as goal

abbrev pub invariant-loop-r : goal.invariant-loop-r
invariant-loop-r l = Stands l.book l.at (role_fields l.r) l.next
