-- Cells that stand in a text, each a comma and `0` or `1`, and the word that says which of them are `1`. Assumes
-- nothing.
use Rattle.std.specs.Prelude.{ℕ, ◌+◌, ◌*◌, ◌≤◌, ◌<◌, ◌≡◌, Bool, true, false, ◌&&◌, ◌||◌, eqb, length, get_or}
use Rattle.std.specs.Prelude.{Option, Some, None}
use Prim.Native.Char.{code}
use Rattle.spec.specs.Text.{Bytes, comma}
use Rattle.bits.specs.Bit.{bit}
use Rattle.lists.specs.Listed.{listed}
use Rattle.cell_text.specs.CellsText.{cell_field}

-- the byte of a cell
abbrev pub cell_byte : Bool → ℕ
cell_byte true = code "1"
cell_byte false = code "0"

-- two bytes are a comma and `0` or `1`
abbrev pub cell_stands : ℕ → ℕ → Bool
cell_stands before b = eqb before comma && (eqb b (cell_byte false) || eqb b (cell_byte true))

-- so many cells, each behind a comma
abbrev pub cells_text : ℕ → (ℕ → Bool) → Bytes
cells_text count ones = listed count (λ i. cell_field (ones i))

-- so many cells stand in the text from a place on, and `ones` says which are `1`
pub record CellsStand (text : Bytes) (at count : ℕ) (ones : ℕ → Bool) : Type 0 where
  pub within : at + 2 * count ≤ length text
  pub commas : (i : ℕ) → i < count → get_or text (at + 2 * i) 0 ≡ comma
  pub cells : (i : ℕ) → i < count → get_or text (at + 2 * i + 1) 0 ≡ cell_byte (ones i)

-- the word says which are `1`, and has no other position
pub record CellsIn (text : Bytes) (at count word : ℕ) : Type 0 where
  pub stand : CellsStand text at count (bit word)
  pub beyond : (q : ℕ) → count ≤ q → bit word q ≡ false

-- what reading so many cells gives: their word, or that no such cells stand there
abbrev pub WordOfCells : Bytes → ℕ → ℕ → Option ℕ → Type 0
WordOfCells text at count (Some word) = CellsIn text at count word
WordOfCells text at count None = (ones : ℕ → Bool) → CellsStand text at count ones → ⊥
