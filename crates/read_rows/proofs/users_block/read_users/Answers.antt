-- `users_block::read_users`: the line of names, the lines of the users and the empty line, one after the other; where
-- one of them does not stand, all rows are cleared.
use Rattle.std.proofs.Common.{arith, length}
use Rattle.spec.specs.Sheet.{sheet_of}
use Rattle.names.specs.Laws.LaidOut.{users_at}
use Rattle.cell_rows.specs.Laws.Width.{roles_fit}
use Rattle.form.specs.RowSteps.{zeros_blank}
use Rattle.read_rows.specs.UserSteps.{no_user_lines, users_then_end, no_users_end}
use Rattle.read_rows.proofs.users_block.read_users.Goals as goal

pub user_lines-requires-clause-at_in_bounds : goal.user_lines-requires-clause-at_in_bounds
user_lines-requires-clause-at_in_bounds c = (
  c.in_ok-lines.ensures.within,
  users_at c.args.sheet.now c.args.layout c.requires.at_in_bounds.1,
  omega (arith, roles_fit),
)

pub returns-in_default : goal.returns-in_default
returns-in_default c = (
  no_user_lines (sheet_of c.args.sheet.now) c.args.roles c.in_ok-lines.ensures
      (rw c.in_default.is at c.user_lines.ensures),
  rw c.clear_rows.ensures (zeros_blank (length c.user_lines.new.has)),
)

pub returns-in_default-expect_byte : goal.returns-in_default-expect_byte
returns-in_default-expect_byte c = (
  no_users_end (sheet_of c.args.sheet.now) c.args.roles c.in_ok-lines.ensures c.in-Some.ensures
      (rw c.in_default-expect_byte.is at c.expect_byte.ensures),
  rw c.clear_rows-in_default-expect_byte.ensures (zeros_blank (length c.user_lines.new.has)),
)

pub returns : goal.returns
returns c =
    users_then_end (sheet_of c.args.sheet.now) c.args.roles c.in_ok-lines.ensures c.in-Some.ensures
    c.in-Some-expect_byte.ensures
