-- The digits of a number of the machine, counted one by one.
use Rattle.std.specs.Prelude.{ℕ, ◌+◌, ◌/◌, ◌^◌, ◌≤◌, ◌<◌}
use Rattle.std.proofs.Common.{arith}
use Rattle.spec.specs.Decimal.{decimal}
use Rattle.bits.specs.Bit.{word_bits}
use Rattle.decimal.specs.WordDigits.{word_digits}
use Rattle.decimal.specs.Laws.Digit.{digit_more, digits_of_word}
use Rattle.decimal.specs.Measured.{Measured}

pub one_digit_more : (n : ℕ) {count : ℕ} → n < 2 ^ word_bits → 10 ≤ n → Measured (decimal (n / 10)) word_digits count
    → Measured (decimal n) word_digits (count + 1)
one_digit_more n fits large m =
    record {
      counted = omega (arith, m.counted, digit_more n large);
      small = omega (arith, m.counted, digit_more n large, digits_of_word n fits);
    }
