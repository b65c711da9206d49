-- `roles_block::role_lines`: the lines of the roles below r have been read.
use Rattle.spec.specs.Book.{role_name}
use Rattle.form.specs.RowSteps.{LinesBelow}
use Rattle.read_rows.proofs.roles_block.role_lines.Given as goal

abbrev pub invariant-loop-r : goal.invariant-loop-r
invariant-loop-r l = LinesBelow l.book l.at role_name l.permissions l.gives l.r l.next
