-- What setting a position of some words leaves, and adding a cell to rows of words. Assumes nothing.
use Rattle.std.specs.Prelude.{ℕ, suc, ◌+◌, ◌*◌, ◌/◌, ◌≤◌, ◌<◌, ◌≡◌, Bool, ◌&&◌, ◌||◌, List, eqb, length, get_or}
use Rattle.bits.specs.Bit.{word_bits}
use Rattle.cell_rows.specs.Rows.{row_words, row_bits, cell}
use Rattle.cell_rows.specs.CellPlaces.{marked}

-- the cell of user u and permission p is added where it says yes; the words of later users stay
pub record CellAdded (words after : List ℕ) (u p : ℕ) (yes : Bool) : Type 0 where
  pub size : length after ≡ length words
  pub shows : (v q : ℕ) → q < row_bits → cell after v q ≡ (cell words v q || (eqb v u && (eqb q p && yes)))
  pub later : (i : ℕ) → suc u * row_words ≤ i → get_or after i 0 ≡ get_or words i 0

-- position n of some words is set, the other positions stay, and so do the other words
pub record PositionSet (words after : List ℕ) (n : ℕ) : Type 0 where
  pub size : length after ≡ length words
  pub shows : (m : ℕ) → marked after m ≡ (marked words m || eqb m n)
  pub others : (i : ℕ) → (i ≡ n / word_bits → ⊥) → get_or after i 0 ≡ get_or words i 0

-- the word of a cell
abbrev pub word_of : ℕ → ℕ → ℕ
word_of u p = u * row_words + p / word_bits
