-- How many digits a count has. A number below ten has one, any other one more than its tenth, and a number of the
-- machine at most twenty.
use Rattle.std.specs.Prelude.{ℕ, ◌+◌, ◌/◌, ◌%◌, ◌^◌, ◌≤◌, ◌<◌, ◌≡◌, [], ◌∷◌, length}
use Rattle.std.proofs.Common.{arith, ap, ◌∙◌, length-append}
use Rattle.spec.specs.Decimal.{digit, decimal}
use Rattle.bits.specs.Bit.{word_bits}
use Rattle.decimal.specs.Laws.Decimal.{decimal_of_digit, decimal_of_tens, decimal_length}
use Rattle.decimal.specs.WordDigits.{word_digits}

pub one_digit : (n : ℕ) → n < 10 → length (decimal n) ≡ 1
one_digit n h = ap length (decimal_of_digit n h)

pub digit_more : (n : ℕ) → 10 ≤ n → length (decimal n) ≡ length (decimal (n / 10)) + 1
digit_more n h = ap length (decimal_of_tens n h) ∙ length-append (decimal (n / 10)) (digit (n % 10) ∷ [])

pub digits_of_word : (n : ℕ) → n < 2 ^ word_bits → length (decimal n) ≤ word_digits
digits_of_word n h = decimal_length 19 n (omega arith)
