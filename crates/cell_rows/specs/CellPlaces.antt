-- Cells by number, row after row: the cell of user u and permission p has the number u * row-bits + p. Its bit is the
-- bit n % word-bits of the word n / word-bits, whatever the words in a row, so a set of cells is searched and counted
-- word by word. Of two grants the lower has the lower cell.
use Rattle.std.specs.Prelude.{ℕ, ◌+◌, ◌*◌, ◌/◌, ◌%◌, ◌≤◌, ◌<◌, ◌≡◌, Bool, ◌&&◌, List, length, get_or}
use Rattle.std.proofs.Math.Bool.{So}
use Rattle.spec.specs.Limits.{user_limit, grant_limit}
use Rattle.spec.specs.Sheet.{Sheet, Grant, holds, grants}
use Rattle.bits.specs.Bit.{bit, word_bits}
use Rattle.cell_rows.specs.Rows.{row_words, row_bits, cell, RowsOf}

-- the words of a sheet with as many users as can be, and the cells of a row for each
abbrev pub cell_words : ℕ
cell_words = user_limit * row_words

abbrev pub cell_limit : ℕ
cell_limit = cell_words * word_bits

-- the cells of these users
abbrev pub cells_of : ℕ → ℕ
cells_of users = users * row_words * word_bits

-- the grant at a cell
abbrev pub grant_of : ℕ → Grant
grant_of n = record { user = n / row_bits; permission = n % row_bits }

-- the bit of a cell is set
abbrev pub marked : List ℕ → ℕ → Bool
marked words n = bit (get_or words (n / word_bits) 0) (n % word_bits)

-- two grants fit, as the rows say
abbrev pub fit_in : List ℕ → Grant → Grant → Bool
fit_in rows g h = cell rows g.user h.permission && cell rows h.user g.permission

-- the rows show the sheet: they hold its cells, and none of its grants lies past these users or past a row's bits
pub record Shown (rows : List ℕ) (users : ℕ) (sheet : Sheet) : Type 0 where
  pub cells : RowsOf rows sheet
  pub few : (u p : ℕ) → So (holds sheet u p) → u < users
  pub short : (u p : ℕ) → So (holds sheet u p) → p < row_bits

-- there is a sheet within the limits that the rows show
pub record Shows (rows : List ℕ) (users : ℕ) : Type 0 where
  pub sheet : Sheet
  pub shown : Shown rows users sheet
  pub few_users : users ≤ user_limit
  pub few_grants : length (grants sheet) ≤ grant_limit

-- every cell that is set in left is set in the rows
pub record Part (left rows : List ℕ) : Type 0 where
  pub held : (n : ℕ) → So (marked left n) → So (marked rows n)

-- the cell is set in left, and its grant fits that at the cell it
abbrev pub near : List ℕ → List ℕ → ℕ → ℕ → Bool
near rows left it n = marked left n && fit_in rows (grant_of it) (grant_of n)

-- the word i of the cells whose grants fit that at the cell it
pub record FittingWord (rows : List ℕ) (it i word : ℕ) : Type 0 where
  pub bits : (q : ℕ) → q < word_bits → bit word q ≡ fit_in rows (grant_of it) (grant_of (i * word_bits + q))

-- a count that ends once it reaches most: below that it is whole
pub record CountedBelow (most whole count : ℕ) : Type 0 where
  pub below : count < most → count ≡ whole
  pub not_more : count ≤ whole
