-- A role set as rows of words: for each user the roles, for each role the permissions. Assumes nothing.
use Rattle.std.specs.Prelude.{ℕ, ◌<◌, ◌≤◌, ◌≡◌, List}
use Rattle.spec.specs.RoleSet.{RoleSet}
use Rattle.cell_rows.specs.Rows.{row_bits, cell}

-- the words hold the two matrices of a role set, for so many users and as many permissions as a row has bits
pub record RoleRows (has gives : List ℕ) (users : ℕ) (roles : RoleSet) : Type 0 where
  pub few : roles.count ≤ row_bits
  pub has_shown : (u r : ℕ) → u < users → r < roles.count → cell has u r ≡ roles.has u r
  pub gives_shown : (r p : ℕ) → r < roles.count → p < row_bits → cell gives r p ≡ roles.gives r p

-- a role set as words, with its count
pub record RolesAt (has gives : List ℕ) (count users : ℕ) (roles : RoleSet) : Type 0 where
  pub rows : RoleRows has gives users roles
  pub total : count ≡ roles.count
