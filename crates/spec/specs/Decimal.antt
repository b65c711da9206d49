-- "The book", its counts: decimal, and what a decimal count says.
use Rattle.std.specs.Prelude.{◌+◌, ◌-◌, ◌*◌, ◌/◌, ◌%◌, ◌&&◌, ◌∷◌, ◌++◌}
use Rattle.spec.specs.Vocabulary.{ℕ, zero, suc, code, Bool, false, cond, []}
use Rattle.spec.specs.Vocabulary.{eqb, ltb, empty, all}
use Rattle.spec.specs.Text.{Bytes, between}

-- the digit of a number below ten
abbrev pub digit : ℕ → ℕ
digit n = code "0" + n

-- a number in decimal, in at most as many digits as asked
abbrev pub decimal_in : ℕ → ℕ → Bytes
decimal_in zero n = []
decimal_in (suc more) n =
    let front : Bytes = decimal_in more (n / 10) in
    cond (ltb n 10) (digit n ∷ []) (front ++ digit (n % 10) ∷ [])

-- counts are decimal without leading zeros; n has at most n + 1 digits. The law `number_of_decimal` (decimal,
-- Laws/Decimal) shows that these are enough: they say the number
unfoldable pub decimal : ℕ → Bytes
decimal n = decimal_in (suc n) n

abbrev pub is_digit : ℕ → Bool
is_digit b = between (code "0") (code "9") b

-- a decimal count of any length, without leading zeros
abbrev pub is_count : Bytes → Bool
is_count [] = false
is_count (b ∷ rest) = cond (eqb b (code "0")) (empty rest) (is_digit b && all is_digit rest)

-- the number that digits say, after those that said n
abbrev pub number_after : ℕ → Bytes → ℕ
number_after n [] = n
number_after n (b ∷ rest) = number_after (10 * n + (b - code "0")) rest

-- the number that a decimal count says; counts and numbers correspond one to one, by `number_of_decimal` (decimal,
-- Laws/Decimal) and `count_is_decimal` (decimal, Laws/Count)
abbrev pub number_of : Bytes → ℕ
number_of count = number_after 0 count
