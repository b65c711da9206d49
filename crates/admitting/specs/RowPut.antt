-- A row of words in the place of another, and a new role put in the two matrices. Assumes nothing.
use Rattle.std.specs.Prelude.{ℕ, ◌<◌, ◌≡◌, cond, List, eqb}
use Rattle.cell_rows.specs.Rows.{row_bits, cell}
use Rattle.cell_rows.specs.CellPlaces.{marked}
use Rattle.cell_rows.specs.CellAdded.{PositionSet}

-- one row has the cells of the new one, and every other row is as it was
pub record RowPut (words after : List ℕ) (row : ℕ) (new : List ℕ) : Type 0 where
  pub shows : (u p : ℕ) → p < row_bits → cell after u p ≡ cond (eqb u row) (marked new p) (cell words u p)

-- user u has the roles got and the new one, and the new one has its row
pub record NewRolePut (has has_then gives gives_then : List ℕ) (u role : ℕ) (got new : List ℕ) : Type 0 where
  pub wider : List ℕ
  pub one_more : PositionSet got wider role
  pub user_row : RowPut has has_then u wider
  pub role_row : RowPut gives gives_then role new
