-- `put::put_new_role`: the new role is marked beside those got, and the two rows are put in their places.
use Rattle.std.proofs.Common.{arith}
use Rattle.spec.specs.Limits.{user_limit, permission_limit, role_limit}
use Rattle.cell_rows.specs.Rows.{row_words}
use Rattle.admitting.proofs.put.put_new_role.Goals as goal

pub mark-requires : goal.mark-requires
unfolding permission_limit role_limit
mark-requires c = omega arith

pub put_row-requires : goal.put_row-requires
unfolding user_limit row_words
put_row-requires c = omega arith

pub put_row-requires-2 : goal.put_row-requires-2
unfolding permission_limit role_limit row_words
put_row-requires-2 c = omega arith
