-- The columns of some permissions together.
use Rattle.std.specs.Prelude.{ℕ, ◌+◌, ◌*◌, Bool, ◌&&◌, List, get_or}
use Rattle.bits.specs.Counting.{some_below}
use Rattle.bits.specs.Bit.{bit, word_bits}
use Rattle.cell_rows.specs.Rows.{row_words}
use Rattle.fit.specs.Columns.{column_words}

-- position t is in word j of the column of a permission at a position of the word, which is word k of a row
abbrev pub in_union : List ℕ → ℕ → ℕ → ℕ → ℕ → Bool
in_union columns word k j t =
    some_below word_bits (λ q. bit word q && bit (get_or columns ((k * word_bits + q) * column_words + j) 0) t)

-- position t is in word j of the column of a permission of a row of words
abbrev pub in_row_union : List ℕ → List ℕ → ℕ → ℕ → ℕ → Bool
in_row_union columns words row j t =
    some_below row_words (λ k. in_union columns (get_or words (row * row_words + k) 0) k j t)
