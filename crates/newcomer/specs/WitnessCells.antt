-- The witness of a book as a list of cells, one for each of its lines. Assumes nothing.
use Rattle.std.specs.Prelude.{ℕ, ◌≤◌, ◌<◌, ◌≡◌, List, length, get_or}
use Rattle.spec.specs.Limits.{user_limit, role_limit}
use Rattle.cell_rows.specs.Rows.{row_bits}
use Rattle.cells.specs.Laws.CellList.{cell_of}
use Rattle.read_fields.specs.WitnessList.{named_grant}
use Rattle.read_fields.specs.declared.witness_block.Witness.{Witness}
use Rattle.judging.specs.WitnessWords.{line_of}

-- every line is kept, and names a user and a permission that have a cell
pub record LinesKept (w : Witness) : Type 0 where
  pub few : w.lines ≤ role_limit
  pub user : (i : ℕ) → i < w.lines → (line_of w i).user.0 < user_limit
  pub permission : (i : ℕ) → i < w.lines → (line_of w i).permission.0 < row_bits

-- the first n cells are those of the first n lines
pub record CellsOf (w : Witness) (n : ℕ) (cells : List ℕ) : Type 0 where
  pub whole : length cells ≡ role_limit
  pub each : (i : ℕ) → i < n → get_or cells i 0 ≡ cell_of (named_grant (line_of w i))
