-- The arithmetic of rows of words, for any number of words in a row that is not 0. That it is not 0, and that a row
-- has room for every permission and every role, is all that any law says of the number itself, and only here.
use Rattle.std.specs.Prelude.{ℕ, ◌+◌, ◌*◌, ◌/◌, ◌%◌, ◌≤◌, ◌<◌, ◌≡◌}
use Rattle.std.proofs.Common.{mod-lt, mul_assoc, mul_comm, arith, sym, ap, ◌∙◌, lit<, lit≤}
use Rattle.std.proofs.Math.Nat.{div-div-eq-div-mul}
use Rattle.std.proofs.Math.Arith.{mod-mul, digits_lt}
use Rattle.spec.specs.Limits.{permission_limit, role_limit}
use Rattle.bits.specs.Bit.{word_bits}
use Rattle.cell_rows.specs.Rows.{row_words, row_bits}

pub row_words_pos : 0 < row_words
unfolding row_words
row_words_pos = omega arith

pub permissions_fit : permission_limit ≤ row_bits
unfolding permission_limit row_bits row_words
permissions_fit = lit≤ tt

pub roles_fit : role_limit ≤ row_bits
unfolding role_limit
roles_fit = permissions_fit

pub row_bits_pos : 0 < row_bits
unfolding row_bits
row_bits_pos = omega (arith, row_words_pos)

-- the words of n rows have their cells
pub rows_cells : (n : ℕ) → n * row_bits ≡ n * row_words * word_bits
unfolding row_bits
rows_cells n = sym (mul_assoc n row_words word_bits)

-- ---- a cell by its user and its permission

-- the word and the position of the cell of user u and permission p
pub cell_word : (u p : ℕ) → (u * row_bits + p) / word_bits ≡ u * row_words + p / word_bits
cell_word u p = omega (arith, rows_cells u)

pub cell_position : (u p : ℕ) → (u * row_bits + p) % word_bits ≡ p % word_bits
cell_position u p = omega (arith, rows_cells u)

-- its word is one of the row
pub word_in_row : (p : ℕ) → p < row_bits → p / word_bits < row_words
unfolding row_bits
word_in_row p h = omega arith

-- the words of a row among those of n rows
pub row_inside : (u n k : ℕ) → u < n → k < row_words → u * row_words + k < n * row_words
row_inside u n k h l = digits_lt h l

-- ---- a cell by its number

-- the user of a cell is that of its word
pub user_of_cell : (n : ℕ) → n / row_bits ≡ n / word_bits / row_words
unfolding row_bits
user_of_cell n = ap (λ (m : ℕ). n / m) (mul_comm row_words word_bits) ∙ sym (div-div-eq-div-mul n word_bits row_words)

-- its permission, by the word's place in the row and the position in the word
pub permission_in_word : (n : ℕ) → n % row_bits ≡ n / word_bits % row_words * word_bits + n % word_bits
unfolding row_bits
permission_in_word n = mod-mul n row_words_pos (lit< tt)

pub permission_below : (n : ℕ) → n % row_bits < row_bits
permission_below n = mod-lt n row_bits_pos
