-- One user's line changed. The user is put in with their new line as a newcomer is: they get each role whose
-- permissions they all hold and, if permissions are left over, one new role of their own. So a role set for the one
-- sheet becomes one for the other with at most one role more, and nothing moves for any other user.
use Rattle.std.specs.Prelude.{ℕ, ◌<◌, ◌≡◌}
use Rattle.std.proofs.Common.{arith, sym, ◌∙◌, ne_eqb}
use Rattle.spec.specs.Sheet.{Sheet, user_count, permission_count}
use Rattle.spec.specs.RoleSet.{RoleSet, Multiplies}
use Rattle.spec.specs.Newcomer.{roles_admitting}
use Rattle.spec.specs.OneChange.{NamesAgree, OnlyInLine, OnlyUserMoved}
use Rattle.right.specs.Spelling.{spells_length}
use Rattle.admitted.specs.RolesAdmitting.{no_fewer_roles, at_most_one_role_more, has_as_before, has_new}
use Rattle.admitted.specs.RolesAdmitting.{gives_as_before}
use Rattle.admitted.specs.ProductAdmitting.{putting_in_multiplies}

-- ---- as many users, as many permissions

pub same_users : {sheet other : Sheet} → NamesAgree sheet other → user_count sheet ≡ user_count other
same_users {sheet} {other} same = spells_length sheet.users other.users same.users

pub same_permissions : {sheet other : Sheet} → NamesAgree sheet other → permission_count sheet ≡ permission_count other
same_permissions {sheet} {other} same = spells_length sheet.permissions other.permissions same.permissions

-- ---- the roles of one sheet, moved to the other

-- to put a user in moves nobody else
putting_in_moves : (sheet : Sheet) (u : ℕ) (roles : RoleSet) → OnlyUserMoved u roles (roles_admitting sheet u roles)
putting_in_moves sheet u roles =
    record {
      no_fewer = no_fewer_roles sheet u roles;
      at_most_one_more = at_most_one_role_more sheet u roles;
      same_roles = has_as_before sheet u roles;
      same_permissions = gives_as_before sheet u roles;
      new_is_theirs = λ v r other l. has_new sheet u roles v r l ∙ ne_eqb v u other;
    }

-- roles for the other sheet, with nothing moved but what is said with them
pub record Moved (OnlyMoved : RoleSet → Type 0) (other : Sheet) : Type 0 where
  pub after : RoleSet
  pub product : Multiplies after other
  pub moved : OnlyMoved after

pub line_moved : {u : ℕ} {sheet other : Sheet} → OnlyInLine u sheet other → {roles : RoleSet} → Multiplies roles sheet
    → Moved (OnlyUserMoved u roles) other
line_moved {u} {sheet} {other} only {roles} multiplies =
    record {
      after = roles_admitting other u roles;
      product =
          putting_in_multiplies other u roles
          (λ v p l k apart.
          let within : v < user_count sheet = omega (arith, same_users only.same_names) in
          let there : p < permission_count sheet = omega (arith, same_permissions only.same_names) in
          multiplies.cell v p within there ∙ only.same_cells v p within there apart);
      moved = putting_in_moves other u roles;
    }

-- the change undone is a change of the same line
pub line_undone : {u : ℕ} {sheet other : Sheet} → OnlyInLine u sheet other → OnlyInLine u other sheet
line_undone only =
    record {
      same_names =
          record { permissions = sym only.same_names.permissions; users = sym only.same_names.users };
      same_cells = λ v p l k apart.
          sym (only.same_cells v p (omega (arith, same_users only.same_names))
          (omega (arith, same_permissions only.same_names)) apart);
    }
