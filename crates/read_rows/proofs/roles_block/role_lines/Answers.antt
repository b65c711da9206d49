-- `roles_block::role_lines`: an empty line ends the roles, else the line of role r follows, whose name is what stands
-- at the front of the buffer.
use Rattle.std.proofs.Common.{arith, ◌≡◌}
use Rattle.spec.specs.Limits.{role_limit}
use Rattle.cell_rows.specs.Laws.Width.{roles_fit}
use Rattle.cell_rows.specs.Laws.RowWithin.{row_within}
use Rattle.steps.specs.Laws.Step.{misses_first, misses_second}
use Rattle.form.specs.Pieces.{row_text}
use Rattle.form.specs.RowSteps.{lines_more}
use Rattle.book_lines.specs.Laws.LineWritten.{front_written}
use Rattle.read_rows.specs.Laws.RoleNames.{role_name_short}
use Rattle.read_rows.specs.RoleSteps.{roles_end, roles_full, roles_off}
use Rattle.read_rows.proofs.roles_block.role_lines.Goals as goal

pub returns-in-Some : goal.returns-in-Some
unfolding role_limit
returns-in-Some c = roles_end (omega arith) c.loop-r.invariant c.in-Some.ensures

pub put_role_name-n-requires : goal.put_role_name-n-requires
unfolding role_limit
put_role_name-n-requires c = (omega (arith, roles_fit), role_name_short c.loop-r.r c.loop-r-test.true)

pub returns-in_err-cells : goal.returns-in_err-cells
returns-in_err-cells c =
    rw c.from_residual.ensures
    (roles_off c.loop-r.invariant c.in_default.ensures
    (λ cells. misses_first (row_text c.args.permissions cells)
    (rw (front_written c.put_role_name-n.ensures) at c.in_err-cells.ensures)))

pub read_line-requires : goal.read_line-requires
unfolding role_limit
read_line-requires c = (
  c.in_ok-cells.ensures.within,
  c.requires.1,
  row_within c.loop-r.r role_limit _ c.loop-r-test.true (omega arith),
  c.loop-r.invariant.blank c.loop-r.r (omega arith),
)

pub returns-in_err-next : goal.returns-in_err-next
returns-in_err-next c =
    rw c.from_residual-in_err-next.ensures
    (roles_off c.loop-r.invariant c.in_default.ensures
    (λ cells. misses_second (row_text c.args.permissions cells)
    (rw (front_written c.put_role_name-n.ensures) at c.in_ok-cells.ensures) (c.in_err-next.ensures.0 cells)))

pub loop-r-preserved : goal.loop-r-preserved
loop-r-preserved c =
    lines_more c.requires.1 c.loop-r.invariant (rw (front_written c.put_role_name-n.ensures) at c.in_ok-cells.ensures)
    c.in_ok-next.ensures

pub returns-in_err-end : goal.returns-in_err-end
unfolding role_limit
returns-in_err-end c =
    rw c.from_residual-in_err-end.ensures (roles_full c.loop-r.invariant (omega arith) c.in_err-end.ensures)

pub returns : goal.returns
unfolding role_limit
returns c =
    let all : c.loop-r.r ≡ role_limit = omega arith in
    rw all at (roles_end (omega arith) c.loop-r.invariant c.in_ok-end.ensures)
