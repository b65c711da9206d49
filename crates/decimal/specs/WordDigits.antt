-- How many digits a number of one word has at most.
use Rattle.std.specs.Prelude.{ℕ}

-- the most digits that a number of the machine has
abbrev pub word_digits : ℕ
word_digits = 20
