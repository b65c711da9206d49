-- The parts of a fit table's words. A word has the cells from a place on. Those that fit the grant at a cell are the
-- ones whose permissions its user holds and whose users hold its permission: the first are the same for all grants of
-- a user, the second for all grants of a permission.
use Rattle.std.specs.Prelude.{ℕ, ◌+◌, ◌/◌, ◌%◌, ◌<◌, ◌≤◌, Bool, ◌&&◌, List, ltb, length, get_or}
use Rattle.std.proofs.Math.Bool.{So}
use Rattle.bits.specs.Bit.{word_bits}
use Rattle.cell_rows.specs.Rows.{row_bits, cell}
use Rattle.cell_rows.specs.CellPlaces.{marked}
use Rattle.table.specs.TableWords.{FirstBits}

-- how many of the cells from a place on are in a word
pub record CellsFrom (size from count : ℕ) : Type 0 where
  pub not_past : count ≤ word_bits
  pub there : (q : ℕ) → q < count → from + q < size
  pub all : (q : ℕ) → q < word_bits → count ≤ q → size ≤ from + q

-- there is such a cell, and it passes a test
abbrev pub passed_from : (ℕ → Bool) → List ℕ → ℕ → ℕ → Bool
passed_from test cells from q = ltb (from + q) (length cells) && test (get_or cells (from + q) 0)

-- the user of a cell holds the permission p
abbrev pub user_holds_at : List ℕ → List ℕ → ℕ → ℕ → ℕ → Bool
user_holds_at rows cells from p q = cell rows (get_or cells (from + q) 0 / row_bits) p

-- there is such a cell, and its user holds the permission p
abbrev pub user_holds : List ℕ → List ℕ → ℕ → ℕ → ℕ → Bool
user_holds rows cells from p q = ltb (from + q) (length cells) && user_holds_at rows cells from p q

-- the user u holds the permission of a cell
abbrev pub permission_held_at : List ℕ → List ℕ → ℕ → ℕ → ℕ → Bool
permission_held_at rows cells from u q = cell rows u (get_or cells (from + q) 0 % row_bits)

-- there is such a cell, and the user u holds its permission
abbrev pub permission_held : List ℕ → List ℕ → ℕ → ℕ → ℕ → Bool
permission_held rows cells from u q = ltb (from + q) (length cells) && permission_held_at rows cells from u q

-- for each permission of a row below a bound, the cells of a word whose users hold it
pub record ColumnsOf (rows cells : List ℕ) (from : ℕ) (some : List ℕ) (bound : ℕ) (words : List ℕ) : Type 0 where
  pub column : (p : ℕ) → p < bound → So (marked some p) → FirstBits (user_holds rows cells from p) word_bits
      (get_or words p 0)
