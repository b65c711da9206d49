-- A matrix of users and permissions as words: a row of words for each user, a bit for each permission. Assumes nothing.
use Rattle.std.specs.Prelude.{ℕ, ◌+◌, ◌*◌, ◌/◌, ◌%◌, ◌<◌, ◌≡◌, Bool, get_or, List}
use Rattle.spec.specs.Sheet.{Sheet, holds}
use Rattle.bits.specs.Bit.{bit, word_bits}

-- words in a row
unfoldable pub row_words : ℕ
row_words = 2

-- bits in a row: as many as permissions can be
unfoldable pub row_bits : ℕ
row_bits = row_words * word_bits

-- the cell of user u and permission p
abbrev pub cell : List ℕ → ℕ → ℕ → Bool
cell words u p = bit (get_or words (u * row_words + p / word_bits) 0) (p % word_bits)

-- the words hold the sheet's cells
pub record RowsOf (words : List ℕ) (sheet : Sheet) : Type 0 where
  pub shows : (u p : ℕ) → p < row_bits → cell words u p ≡ holds sheet u p
