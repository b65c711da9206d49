-- What is asked of rows of words where a newcomer is put in, and what is left there. Assumes nothing.
use Rattle.std.specs.Prelude.{ℕ, suc, ◌≤◌, ◌<◌, ◌≡◌, Bool, false, ◌&&◌, List, leb, Option, Some, None}
use Rattle.std.proofs.Math.Bool.{So}
use Rattle.spec.specs.Limits.{role_limit}
use Rattle.spec.specs.Sheet.{Sheet, user_count, permission_count}
use Rattle.spec.specs.RoleSet.{RoleSet}
use Rattle.spec.specs.Newcomer.{some_left_over, roles_admitting}
use Rattle.rules.specs.AcceptedFacts.{Lawful}
use Rattle.cell_rows.specs.Rows.{row_bits, cell, RowsOf}
use Rattle.product.specs.RoleRows.{RolesAt}

-- the rows show a sheet that has user u; the matrices are of so many roles: no user before u has another, and no role
-- holds what is no permission of the sheet
pub record AdmitReady (sheet : Sheet) (rows : List ℕ) (u : ℕ) (has gives : List ℕ) (roles : ℕ) : Type 0 where
  pub lawful : Lawful sheet
  pub user : u < user_count sheet
  pub shown : RowsOf rows sheet
  pub no_role : (v r : ℕ) → v < u → roles ≤ r → r < row_bits → cell has v r ≡ false
  pub no_permission : (r p : ℕ) → r < roles → permission_count sheet ≤ p → p < row_bits → cell gives r p ≡ false

-- a new role is needed, and there is no room for it
abbrev pub no_room : Sheet → ℕ → RoleSet → Bool
no_room sheet u roles = some_left_over sheet u roles && leb role_limit roles.count

-- the matrices are those of the role set with user u in it
pub record AdmittedAt (sheet : Sheet) (u : ℕ) (roles : RoleSet) (has gives : List ℕ) (count : ℕ) : Type 0 where
  pub room : no_room sheet u roles ≡ false
  pub at : RolesAt has gives count (suc u) (roles_admitting sheet u roles)

-- what is answered, and what the matrices then hold
abbrev pub RowsAdmitted : Sheet → ℕ → RoleSet → List ℕ → List ℕ → Option ℕ → Type 0
RowsAdmitted sheet u roles has gives (Some count) = AdmittedAt sheet u roles has gives count
RowsAdmitted sheet u roles has gives None = So (no_room sheet u roles)
