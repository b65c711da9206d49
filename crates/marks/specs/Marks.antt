-- A set of numbers in two words: which numbers are marked.
use Rattle.std.specs.Prelude.{ℕ, ◌*◌, ◌-◌, Bool, cond, ltb}
use Rattle.bits.specs.Bit.{bit, word_bits}
use Rattle.marks.specs.declared.marks.Marks.{Marks}

-- how many words a kernel grant has in the fit table
abbrev pub kernel_words : ℕ
kernel_words = 2

-- how many numbers two words can mark
abbrev pub mark_limit : ℕ
mark_limit = kernel_words * word_bits

-- number p is position p of the low word, or that much past the low word of the high one
abbrev pub marked : Marks → ℕ → Bool
marked marks p = cond (ltb p word_bits) (bit marks.low p) (bit marks.high (p - word_bits))

-- how many words a table has that marks numbers for each of as many
abbrev pub table_words : ℕ
table_words = mark_limit * kernel_words
