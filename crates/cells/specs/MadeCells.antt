-- Sets of cells by a test of their numbers. Assumes nothing.
use Rattle.std.specs.Prelude.{ℕ, ◌≤◌, ◌<◌, ◌≡◌, Bool, false, List}
use Rattle.cell_rows.specs.CellPlaces.{marked}

-- the cells below an end that pass, and no others
pub record MadeCells (test : ℕ → Bool) (end : ℕ) (words : List ℕ) : Type 0 where
  pub inside : (n : ℕ) → n < end → marked words n ≡ test n
  pub outside : (n : ℕ) → end ≤ n → marked words n ≡ false
