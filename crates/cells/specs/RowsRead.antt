-- The rows of a sheet as its reader leaves them. Assumes nothing.
use Rattle.std.specs.Prelude.{ℕ, ◌*◌, ◌≤◌, ◌≡◌, List, get_or}
use Rattle.spec.specs.Sheet.{Sheet, user_count}
use Rattle.cell_rows.specs.Rows.{row_words, RowsOf}

-- the words hold the sheet's cells, and the words past the users' rows are 0
pub record RowsRead (words : List ℕ) (sheet : Sheet) : Type 0 where
  pub rows : RowsOf words sheet
  pub beyond : (i : ℕ) → user_count sheet * row_words ≤ i → get_or words i 0 ≡ 0
