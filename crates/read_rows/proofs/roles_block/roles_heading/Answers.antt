-- `roles_block::roles_heading`: behind the word the permissions stand as the sheet's own first line has them, in
-- whatever case.
use Rattle.spec.specs.Sheet.{sheet_of}
use Rattle.read_rows.specs.HeadingSteps.{names_decide}
use Rattle.read_rows.proofs.roles_block.roles_heading.Goals as goal

pub returns : goal.returns
returns c =
    names_decide (sheet_of c.args.sheet.now) c.in_ok-names.ensures c.expect_name.result
    (rw c.permissions_line.ensures at c.expect_name.ensures)
