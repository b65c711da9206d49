-- A row of words and its words lie within the words of as many rows.
use Rattle.std.specs.Prelude.{ℕ, ◌+◌, ◌*◌, ◌≤◌, ◌<◌}
use Rattle.std.proofs.Common.{mul-le-mul_right, add-one, arith}
use Rattle.cell_rows.specs.Rows.{row_words}
use Rattle.cell_rows.specs.Laws.Width.{row_inside}

-- a row that the words have
pub row_within : (row rows size : ℕ) → row < rows → rows * row_words ≤ size → (row + 1) * row_words ≤ size
row_within row rows size h k = omega (arith, mul-le-mul_right {m = row + 1} {n = rows} row_words (rw (add-one row) h))

-- a word of a row that the words have
pub word_below : (row rows k size : ℕ) → row < rows → k < row_words → rows * row_words ≤ size → row * row_words + k <
    size
word_below row rows k size h l m = omega (arith, row_inside row rows k h l)
