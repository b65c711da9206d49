-- A row of words that has every cell of another. Assumes nothing.
use Rattle.std.specs.Prelude.{ℕ, Bool, List}
use Rattle.spec.specs.Vocabulary.{every_below}
use Rattle.bits.specs.Truth.{implies}
use Rattle.cell_rows.specs.Rows.{row_bits, cell}

-- row u has cell p where row r of what is asked has it
abbrev pub held_at : List ℕ → List ℕ → ℕ → ℕ → ℕ → Bool
held_at rows asked u r p = implies (cell asked r p) (cell rows u p)

-- row u has all that row r asks
abbrev pub holds_row : List ℕ → List ℕ → ℕ → ℕ → Bool
holds_row rows asked u r = every_below row_bits (held_at rows asked u r)
