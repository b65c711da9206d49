-- `users_block::user_lines`: the lines of the users below u have been read, their names in whatever case.
use Rattle.spec.specs.Sheet.{sheet_of}
use Rattle.read_rows.specs.UserSteps.{UsersBelow}
use Rattle.read_rows.proofs.users_block.user_lines.Given as goal

abbrev pub invariant-loop-u : goal.invariant-loop-u
invariant-loop-u l = UsersBelow (sheet_of l.sheet).users l.book l.at l.roles l.has l.u l.next
