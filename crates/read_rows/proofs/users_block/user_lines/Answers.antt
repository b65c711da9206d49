-- `users_block::user_lines`: the next line begins with the name of user u, in whatever case.
use Rattle.std.proofs.Common.{arith, ◌<◌}
use Rattle.spec.specs.Sheet.{sheet_of, user_count}
use Rattle.read_rows.specs.UserSteps.{users_more, no_user_name, no_user_cells}
use Rattle.read_rows.proofs.users_block.user_lines.Goals as goal

pub returns-in_err-cells : goal.returns-in_err-cells
returns-in_err-cells c =
    let more : c.loop-u.u < user_count (sheet_of c.args.sheet.now) = omega arith in
    rw c.from_residual.ensures
    (no_user_name c.loop-u.invariant more (rw c.user_name_in-name.ensures at c.in_err-cells.ensures))

pub returns-in_err-next : goal.returns-in_err-next
returns-in_err-next c =
    let more : c.loop-u.u < user_count (sheet_of c.args.sheet.now) = omega arith in
    rw c.from_residual-in_err-next.ensures
    (no_user_cells c.loop-u.invariant more (rw c.user_name_in-name.ensures at c.in_ok-cells.ensures)
    c.in_err-next.ensures.0)

pub loop-u-preserved : goal.loop-u-preserved
loop-u-preserved c =
    let more : c.loop-u.u < user_count (sheet_of c.args.sheet.now) = omega arith in
    users_more c.loop-u.invariant more c.requires.at_in_bounds.2
    (rw c.user_name_in-name.ensures at c.in_ok-cells.ensures) c.in_ok-next.ensures
