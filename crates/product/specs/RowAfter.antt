-- Two matrices as rows of words, and what a user's row of their product has after so many roles. Assumes nothing.
use Rattle.std.specs.Prelude.{ℕ, ◌<◌, ◌≡◌, List}
use Rattle.spec.specs.RoleSet.{RoleSet, cell_after}
use Rattle.cell_rows.specs.Rows.{row_bits, cell}
use Rattle.cell_rows.specs.CellPlaces.{marked}

-- the role set of two matrices, a row of words for each user and for each role. It is meant for at most as many roles
-- as a row has bits, which the contracts require: past them a cell is one of the next row
abbrev pub roles_in : List ℕ → List ℕ → ℕ → RoleSet
roles_in has gives count = record { count = count; has = cell has; gives = cell gives }

-- the row has what the cells of user u have after r roles, whatever the role set's count
pub record RowAfter (has gives : List ℕ) (u r : ℕ) (row : List ℕ) : Type 0 where
  pub cells : (count p : ℕ) → p < row_bits → marked row p ≡ cell_after (roles_in has gives count) u p r
