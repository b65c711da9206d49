-- Roles found in one walk over the rows: the grants in order, each with the role of its class, as far as the walk
-- has come. Assumes nothing.
use Rattle.std.specs.Prelude.{ℕ, ◌*◌, ◌≤◌, ◌<◌, ◌≡◌, List, length, get_or}
use Rattle.spec.specs.Limits.{user_limit, grant_limit}
use Rattle.spec.specs.Cover.{used}
use Rattle.lists.specs.PassingBelow.{passing_below}
use Rattle.lists.specs.KeyLaws.{by_key}
use Rattle.cell_rows.specs.Rows.{row_bits}
use Rattle.cell_rows.specs.CellPlaces.{cell_words, cell_limit, marked}
use Rattle.cover.specs.CoverKeys.{Keyed}
use Rattle.roles.specs.CellClasses.{paired_in}
use Rattle.roles.specs.RoleNumbers.{class_limit, no_role, class_key}
use Rattle.roles.specs.RoleMatrices.{CellsShow, role_words, has_role, gives_permission}

-- the cells that are set in rows, in order
abbrev pub all_cells : List ℕ → List ℕ
all_cells rows = passing_below (user_limit * row_bits) (marked rows)

-- how many of them are below n
abbrev pub passed : List ℕ → ℕ → ℕ
passed rows n = length (passing_below n (marked rows))

-- there are no more grants than a sheet has, their classes stand in the table, and their roles are columns of a row
pub record ClassedRows (rows class : List ℕ) : Type 0 where
  pub few : length (all_cells rows) ≤ grant_limit
  pub in_table : (n : ℕ) → n < cell_limit → get_or class n 0 < class_limit
  pub few_roles : used (by_key (class_key class (all_cells rows)) (length (all_cells rows))) ≤ row_bits

-- the two matrices are those of the grants below cell n, and the table has the roles of their classes
pub record RolesTo (rows class : List ℕ) (n : ℕ) (table has gives : List ℕ) (count : ℕ) : Type 0 where
  pub roles : List ℕ
  pub numbered : Keyed (class_key class (all_cells rows)) (passed rows n) class_limit no_role table roles count
  pub has_wide : length has ≡ cell_words
  pub has_shown : CellsShow has (has_role (paired_in (all_cells rows) roles (passed rows n)))
  pub gives_wide : length gives ≡ role_words
  pub gives_shown : CellsShow gives (gives_permission (paired_in (all_cells rows) roles (passed rows n)))

-- they are those of the grants below cell n
pub record RolesFound (rows class : List ℕ) (n : ℕ) (has gives : List ℕ) (count : ℕ) : Type 0 where
  pub table : List ℕ
  pub found : RolesTo rows class n table has gives count
