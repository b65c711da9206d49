-- A count written digit by digit: its first digit, or a digit behind its tenth.
use Rattle.std.specs.Prelude.{ℕ, ◌+◌, ◌/◌, ◌%◌, ◌≤◌, ◌<◌, ◌≡◌, [], length, set}
use Rattle.spec.specs.Text.{Bytes}
use Rattle.spec.specs.Decimal.{digit, decimal}
use Rattle.decimal.specs.Laws.Decimal.{decimal_of_digit, decimal_of_tens}
use Rattle.text.specs.Written.{Written, nothing_written, byte_written}

pub first_digit_written : (n d : ℕ) (before : Bytes) → n < 10 → 0 < length before → d ≡ digit n
    → Written (decimal n) before (set before 0 d) 1
first_digit_written n d before small fits e =
    rw (decimal_of_digit n small, e) (byte_written [] (digit n) fits (nothing_written before))

pub last_digit_written : (n d : ℕ) {before mid : Bytes} {at : ℕ} → 10 ≤ n → at < length before → d ≡ digit (n % 10)
    → Written (decimal (n / 10)) before mid at → Written (decimal n) before (set mid at d) (at + 1)
last_digit_written n d large fits e w =
    rw (decimal_of_tens n large, e) (byte_written (decimal (n / 10)) (digit (n % 10)) fits w)
