-- Where a cell stands among the words: its user, its word within the row and its position are the quotients and
-- remainders of its number, first by the bits of a word, then by the words of a row. So the bit of a cell is the cell
-- of its user and permission.
use Rattle.std.specs.Prelude.{ℕ, ◌+◌, ◌*◌, ◌/◌, ◌%◌, ◌<◌, ◌≡◌, ◌&&◌, List, get_or}
use Rattle.std.proofs.Common.{mod-lt, div-add-mod', div-lt_iff_lt-mul, lit<}
use Rattle.std.proofs.Math.Arith.{digits_div, digits_mod}
use Rattle.bits.specs.Bit.{bit, word_bits}
use Rattle.cell_rows.specs.Rows.{row_words, row_bits, cell}
use Rattle.cells.specs.CellSets.{in_cells}
use Rattle.cell_rows.specs.CellPlaces.{grant_of, marked, fit_in}
use Rattle.cell_rows.specs.Laws.Width.{row_bits_pos, user_of_cell, permission_in_word}

-- ---- the parts of a cell's number

pub word_of_cell : (n : ℕ) → n % row_bits / word_bits ≡ n / word_bits % row_words
word_of_cell n = rw (permission_in_word n) (digits_div (n / word_bits % row_words) (mod-lt n (lit< tt)))

pub position_of_cell : (n : ℕ) → n % row_bits % word_bits ≡ n % word_bits
position_of_cell n = rw (permission_in_word n) (digits_mod (n / word_bits % row_words) (mod-lt n (lit< tt)))

pub user_below : (n users : ℕ) → n < users * row_bits → n / row_bits < users
user_below n users = (div-lt_iff_lt-mul row_bits_pos).1

-- ---- the bit of a cell

pub cell_marked : (words : List ℕ) (n : ℕ) → in_cells words (grant_of n) ≡ marked words n
cell_marked words n =
    rw (word_of_cell n, position_of_cell n, user_of_cell n, div-add-mod' (n / word_bits) row_words)

-- the cells of a word, against the grant at a cell: the same word of that grant's row, where their user holds its
-- permission
pub fit_by_word : (rows : List ℕ) (it i q : ℕ) → q < word_bits
    → fit_in rows (grant_of it) (grant_of (i * word_bits + q))
    ≡ (bit (get_or rows (it / row_bits * row_words + i % row_words) 0) q && cell rows (i / row_words) (it % row_bits))
fit_by_word rows it i q l =
    rw (
      word_of_cell (i * word_bits + q),
      position_of_cell (i * word_bits + q),
      user_of_cell (i * word_bits + q),
      digits_div i l,
      digits_mod i l,
    )
