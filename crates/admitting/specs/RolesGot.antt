-- The roles that a user gets, as a row of words. Assumes nothing.
use Rattle.std.specs.Prelude.{ℕ, ◌≡◌, ◌&&◌, List, ltb}
use Rattle.cell_rows.specs.CellPlaces.{marked}
use Rattle.cell_rows.specs.RowHeld.{holds_row}

-- the row has those of the first so many roles whose permissions user u all holds, and no others
pub record RolesGot (rows gives : List ℕ) (u roles : ℕ) (got : List ℕ) : Type 0 where
  pub shows : (r : ℕ) → marked got r ≡ (ltb r roles && holds_row rows gives u r)
