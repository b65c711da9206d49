-- The first so many cells of a row, word after word. Assumes nothing.
use Rattle.std.specs.Prelude.{ℕ, ◌-◌, ◌*◌, min}
use Rattle.bits.specs.Bit.{word_bits}

-- how many of the first so many cells of a row stand in word k
abbrev pub in_word : ℕ → ℕ → ℕ
in_word count k = min word_bits (count - k * word_bits)

-- how many of them stand before it
abbrev pub before_word : ℕ → ℕ → ℕ
before_word count k = min (k * word_bits) count
