-- What keeps a cell from dominating another: a user who holds the other's permission, with a cell of left that is in
-- the row of the other's user and does not fit the first. Whether the user's cells fit does not depend on the other's
-- permission, so one such user speaks of all permissions that the user holds.
use Rattle.std.specs.Prelude.{ℕ, min, ◌+◌, ◌*◌, ◌/◌, ◌%◌, Bool, not, ◌&&◌, List, eqb, ltb, get_or}
use Rattle.spec.specs.Vocabulary.{every_below}
use Rattle.bits.specs.Bit.{bit, word_bits}
use Rattle.bits.specs.Truth.{implies}
use Rattle.cell_rows.specs.Rows.{row_words, row_bits, cell}
use Rattle.cell_rows.specs.CellPlaces.{grant_of, marked, fit_in}
use Rattle.fit.specs.Columns.{column_words, held_in}

-- the word of user v's row that the cells of word i are in
abbrev pub row_word : List ℕ → ℕ → ℕ → ℕ
row_word rows v i = get_or rows (v * row_words + i % row_words) 0

-- if the cell of user x and permission p is one of left, and in the row of user v, then it fits the cell it
abbrev pub fits_if_in_row : List ℕ → List ℕ → ℕ → ℕ → ℕ → ℕ → Bool
fits_if_in_row rows left it v x p =
    implies (marked left (x * row_bits + p) && cell rows v p)
    (fit_in rows (grant_of it) (grant_of (x * row_bits + p)))

-- the cells of user x in left that are in the row of user v all fit the cell it
abbrev pub row_fits : List ℕ → List ℕ → ℕ → ℕ → ℕ → Bool
row_fits rows left it v x = every_below row_bits (fits_if_in_row rows left it v x)

-- user x holds the permission of the cell g, and the cells of x in left that are in the row of g's user do not all
-- fit the cell it
abbrev pub misfit_at : List ℕ → List ℕ → ℕ → ℕ → ℕ → Bool
misfit_at rows left it g x = held_in rows (g % row_bits) x && not (row_fits rows left it (g / row_bits) x)

-- position q of word j of the column of the permission p, if it is one of the users
abbrev pub is_holder : List ℕ → ℕ → ℕ → ℕ → ℕ → Bool
is_holder columns users p j q =
    bit (get_or columns (p * column_words + j) 0) q && ltb (j * word_bits + q) users

-- the same for the permission of the cell g, but where the cell it has g's user, none who holds the permission of it
abbrev pub is_suspect : List ℕ → ℕ → ℕ → ℕ → ℕ → ℕ → Bool
is_suspect columns users it g j q =
    is_holder columns users (g % row_bits) j q
    && not (eqb (it / row_bits) (g / row_bits) && is_holder columns users (it % row_bits) j q)

-- how many of the users come before those at word j of a column
abbrev pub users_before : ℕ → ℕ → ℕ
users_before users j = min (j * word_bits) users
