-- What of a user's row is not in another row. Assumes nothing.
use Rattle.std.specs.Prelude.{ℕ, Bool, not, ◌&&◌, List}
use Rattle.cell_rows.specs.Rows.{cell}
use Rattle.cell_rows.specs.CellPlaces.{marked}

-- user u holds permission p, and it is not taken
abbrev pub not_taken : List ℕ → ℕ → List ℕ → ℕ → Bool
not_taken rows u taken p = cell rows u p && not (marked taken p)
