-- `newcomer::admit`: the row of the roles got and the row of what they hold are there when it is asked whether anything
-- is left over. So each way from there leaves the role set with the newcomer in it.
use Rattle.std.proofs.Common.{arith, sym, ◌∙◌}
use Rattle.spec.specs.Limits.{user_limit, permission_limit, role_limit}
use Rattle.cell_rows.specs.Rows.{row_words}
use Rattle.cell_rows.specs.Laws.Width.{roles_fit}
use Rattle.admitting.specs.Laws.Admitted.{admitted_no_role, no_room_left, admitted_new_role}
use Rattle.admitting.proofs.newcomer.admit.Goals as goal

pub row_after-taken-requires : goal.row_after-taken-requires
unfolding user_limit permission_limit role_limit row_words
row_after-taken-requires c = (omega (arith, roles_fit), omega arith, omega arith)

pub holds_row-requires : goal.holds_row-requires
unfolding user_limit row_words
holds_row-requires c = (omega arith, omega arith)

pub put_row-requires : goal.put_row-requires
unfolding user_limit row_words
put_row-requires c = omega arith

pub put_new_role-requires : goal.put_new_role-requires
unfolding permission_limit role_limit
put_new_role-requires c = (omega arith, omega arith)

pub overflow_add-result : goal.overflow_add-result
unfolding permission_limit role_limit
overflow_add-result c = omega arith

pub returns-then-holds_row : goal.returns-then-holds_row
returns-then-holds_row c =
    λ sheet ready.
    admitted_no_role ready c.requires.1 c.roles_got-got.ensures c.row_after-taken.ensures
    (sym c.holds_row.ensures ∙ c.if-holds_row.true) c.put_row.ensures

pub returns-then-roles-eq-ROLE_LIMIT : goal.returns-then-roles-eq-ROLE_LIMIT
unfolding permission_limit role_limit
returns-then-roles-eq-ROLE_LIMIT c =
    λ sheet ready.
    no_room_left ready c.requires.1 c.roles_got-got.ensures c.row_after-taken.ensures
    (sym c.holds_row.ensures ∙ c.if-holds_row.false) (omega (arith, c.if-roles-eq-ROLE_LIMIT.true))

pub returns : goal.returns
unfolding permission_limit role_limit
returns c =
    λ sheet ready.
    admitted_new_role ready c.requires.1 c.roles_got-got.ensures c.row_after-taken.ensures
    (omega (arith, c.requires.1, c.if-roles-eq-ROLE_LIMIT.false)) c.left_row-left.ensures c.put_new_role.ensures
    (sym c.holds_row.ensures ∙ c.if-holds_row.false)
