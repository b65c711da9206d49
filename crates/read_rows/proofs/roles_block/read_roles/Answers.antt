-- `roles_block::read_roles`: the line of names, then the lines of the roles; where they do not stand, all rows are
-- cleared.
use Rattle.std.proofs.Common.{arith, length}
use Rattle.spec.specs.Sheet.{sheet_of}
use Rattle.rules.specs.AcceptedFacts.{accepted_lawful}
use Rattle.cell_rows.specs.Laws.Width.{permissions_fit}
use Rattle.form.specs.RowSteps.{zeros_blank}
use Rattle.read_rows.specs.RoleSteps.{heading_then_roles, no_role_lines}
use Rattle.read_rows.proofs.roles_block.read_roles.Goals as goal

pub role_lines-requires : goal.role_lines-requires
role_lines-requires c =
    let laid = c.requires.at_in_bounds.1 in (
      c.in_ok-lines.ensures.reads.within,
      omega (
        arith,
        permissions_fit,
        laid.permission_total,
        (accepted_lawful c.args.sheet.now laid.accepts).few_permissions,
      ),
      c.requires.row_words_in_bounds.0,
      c.requires.row_words_in_bounds.1,
    )

pub returns-in_default : goal.returns-in_default
returns-in_default c = (
  no_role_lines (sheet_of c.args.sheet.now) c.in_ok-lines.ensures
      (rw (c.in_default.is, c.requires.at_in_bounds.1.permission_total) at c.role_lines.ensures),
  rw c.clear_rows.ensures (zeros_blank (length c.role_lines.new.gives)),
)

pub returns : goal.returns
returns c =
    heading_then_roles (sheet_of c.args.sheet.now) c.in_ok-lines.ensures
    (rw (c.in-Some.is, c.requires.at_in_bounds.1.permission_total) at c.role_lines.ensures)
