-- "Roles and state", a role set: any user-to-role and any role-to-permission matrix, with any number of roles ("The
-- sequence of demand 3"), and their and/or product as source document 001 has it, role after role.
use Rattle.std.specs.Prelude.{◌<◌, ◌≡◌, ◌&&◌, ◌||◌}
use Rattle.spec.specs.Vocabulary.{ℕ, zero, suc, Bool, false, List, any, list_of}
use Rattle.spec.specs.Sheet.{Sheet, user_count, permission_count, holds}

-- user u has role h; role h holds permission p. Users, permissions and roles are numbered from 0: role h is document
-- 001's role h + 1 and a book's R(h + 1); in document 001, `has` u h is URA[u + 1][h + 1], `gives` h p is
-- RPA[h + 1][p + 1] and `count` is k
pub record RoleSet : Type 0 where
  pub count : ℕ
  pub has : ℕ → ℕ → Bool
  pub gives : ℕ → ℕ → Bool

-- role h opens the cell of user u and permission p: "user has it and it holds the permission"
abbrev pub opens : RoleSet → ℕ → ℕ → ℕ → Bool
opens roles u p h = roles.has u h && roles.gives h p

-- what the cell of user u and permission p has after r roles: after none it is no; after r + 1 it is what it was after
-- r, or "user has it and it holds the permission" of role r, which is the next
unfoldable pub cell_after : RoleSet → ℕ → ℕ → ℕ → Bool
cell_after roles u p zero = false
cell_after roles u p (suc r) = cell_after roles u p r || opens roles u p r

-- a cell of the product: what it has after all roles
unfoldable pub product : RoleSet → ℕ → ℕ → Bool
product roles u p = cell_after roles u p roles.count

-- document 001's roles 1 to r, by their numbers here: 0, 1, .. r - 1
abbrev pub roles_1_to : ℕ → List ℕ
roles_1_to r = list_of r (λ h. h)

-- the "or" over roles 1 to r of "user has it and it holds the permission", written out from role 1 on
abbrev pub or_over_roles : RoleSet → ℕ → ℕ → ℕ → Bool
or_over_roles roles u p r = any (opens roles u p) (roles_1_to r)

-- the product is the sheet, cell for cell
pub record Multiplies (roles : RoleSet) (sheet : Sheet) : Type 0 where
  pub cell : (u p : ℕ) → u < user_count sheet → p < permission_count sheet → product roles u p ≡ holds sheet u p
