-- Lines of numbers of the machine, and how long they can be. Assumes nothing.
use Rattle.std.specs.Prelude.{ℕ, ◌+◌, ◌*◌, ◌^◌, ◌≤◌, ◌<◌, [], ◌∷◌, ◌++◌, length}
use Rattle.std.proofs.Common.{arith, length-append}
use Rattle.spec.specs.Text.{Bytes, comma, line_feed}
use Rattle.spec.specs.Decimal.{decimal}
use Rattle.spec.specs.Program.{number_line}
use Rattle.bits.specs.Bit.{word_bits}
use Rattle.decimal.specs.WordDigits.{word_digits}
use Rattle.decimal.specs.Laws.Digit.{digits_of_word}

-- two numbers with a comma between, and a line feed
abbrev pub pair_line : ℕ → ℕ → Bytes
pair_line first second = (decimal first ++ comma ∷ []) ++ number_line second

pub number_line_length : (n : ℕ) → n < 2 ^ word_bits → length (number_line n) ≤ word_digits + 1
number_line_length n h = omega (arith, digits_of_word n h, length-append (decimal n) (line_feed ∷ []))

pub pair_line_length : (m n : ℕ) → m < 2 ^ word_bits → n < 2 ^ word_bits → length (pair_line m n) ≤ 2 *
    (word_digits + 1)
pair_line_length m n h k =
    omega (
      arith,
      digits_of_word m h,
      number_line_length n k,
      length-append (decimal m) (comma ∷ []),
      length-append (decimal m ++ comma ∷ []) (number_line n),
    )
