-- A number as the set of the positions of its binary digits that are 1.
use Rattle.std.specs.Prelude.{Bool, ℕ, ◌/◌, ◌%◌, ◌^◌, eqb}

-- the digit of n at position p is 1, position 0 the lowest
unfoldable pub bit : ℕ → ℕ → Bool
bit n p = eqb (n / 2 ^ p % 2) 1

-- how many positions a word of the machine has
abbrev pub word_bits : ℕ
word_bits = 64
