-- `roles::put_in_role`: in either matrix the position of one cell is set, that of the user and the role, and that of
-- the role and the permission.
use Rattle.std.proofs.Common.{arith}
use Rattle.spec.specs.Limits.{user_limit}
use Rattle.cell_rows.specs.Rows.{row_words, row_bits}
use Rattle.cell_rows.specs.Laws.Width.{permission_below}
use Rattle.cell_rows.specs.Laws.PositionSet.{cell_added}
use Rattle.roles.proofs.rows.put_in_role.Goals as goal

pub mark-requires : goal.mark-requires
unfolding user_limit row_bits row_words
mark-requires c = omega arith

pub mark-requires-2 : goal.mark-requires-2
unfolding user_limit row_bits row_words
mark-requires-2 c = omega arith

pub returns : goal.returns
unfolding row_bits row_words
returns c = (
  cell_added _ _ _ _ c.requires.3 (rw c.user_of-user.ensures at c.mark.ensures),
  cell_added _ _ _ _ (permission_below c.args.cell.0) (rw c.permission_of-permission.ensures at c.mark-2.ensures),
)
