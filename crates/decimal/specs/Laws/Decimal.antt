-- A number in decimal: one digit below ten, and else the decimal of its tenth with one digit behind it. So what holds
-- of one digit, and goes on with one more, holds of every number's decimal: it says the number, is made of digits,
-- and is as short as the number is small.
use Rattle.std.specs.Prelude.{ℕ, zero, suc, ◌+◌, ◌-◌, ◌*◌, ◌/◌, ◌%◌, ◌^◌, ◌≤◌, ◌<◌, ◌≡◌, refl, ◌⊎◌, true, ◌&&◌, [], ◌∷◌}
use Rattle.std.specs.Prelude.{◌++◌, length}
use Prim.Native.Char.{code}
use Rattle.std.proofs.Common.{pow-suc, arith, ap, ◌∙◌, inl, inr, ⊎_elim, lt-ltb, le-ltb, length-append}
use Rattle.std.proofs.Math.Bool.{So}
use Rattle.spec.specs.Vocabulary.{all}
use Rattle.spec.specs.Text.{Bytes}
use Rattle.spec.specs.Decimal.{digit, decimal_in, decimal, is_digit, number_after, number_of}
use Rattle.bits.specs.Truth.{and_intro}
use Rattle.bits.specs.Laws.Below.{below_or_from}
use Rattle.lists.specs.AppendLaws.{all_append}
use Rattle.text.specs.Laws.Byte.{between_intro, between_low, between_high}

-- ---- digit by digit

-- more digits asked than a number has change nothing
decimal_in_enough : (f g n : ℕ) → n < f → n < g → decimal_in f n ≡ decimal_in g n
decimal_in_enough zero g n h k = absurd (omega arith)
decimal_in_enough (suc f) zero n h k = absurd (omega arith)
decimal_in_enough (suc f) (suc g) n h k =
    ⊎_elim (λ (l : n < 10). rw (lt-ltb n 10 l))
    (λ (l : 10 ≤ n). rw (le-ltb n 10 l, decimal_in_enough f g (n / 10) (omega arith) (omega arith)))
    (below_or_from n 10)

-- a number below ten
pub decimal_of_digit : (n : ℕ) → n < 10 → decimal n ≡ digit n ∷ []
unfolding decimal
decimal_of_digit n h = rw (lt-ltb n 10 h)

-- one more digit behind a number of 1 or more
pub decimal_of_more : (m d : ℕ) → 1 ≤ m → d < 10 → decimal (10 * m + d) ≡ decimal m ++ digit d ∷ []
unfolding decimal
decimal_of_more m d h k =
    let tenth : (10 * m + d) / 10 ≡ m = omega arith in
    let last : (10 * m + d) % 10 ≡ d = omega arith in
    rw (
      le-ltb (10 * m + d) 10 (omega arith),
      tenth,
      last,
      decimal_in_enough (10 * m + d) (suc m) m (omega arith)
          (omega arith),
    )

-- a number from ten on
pub decimal_of_tens : (n : ℕ) → 10 ≤ n → decimal n ≡ decimal (n / 10) ++ digit (n % 10) ∷ []
decimal_of_tens n h =
    let whole : n ≡ 10 * (n / 10) + n % 10 = omega arith in
    ap decimal whole ∙ decimal_of_more (n / 10) (n % 10) (omega arith) (omega arith)

-- what holds of one digit, and of a digit behind a count of 1 or more where it holds of that count, holds of every
-- number's count
pub decimal_induction :
    (P : ℕ → Bytes → Type 0)
    → ((n : ℕ) → n < 10 → P n (digit n ∷ []))
    → ((m d : ℕ) → 1 ≤ m → d < 10 → P m (decimal m) → P (10 * m + d) (decimal m ++ digit d ∷ []))
    → (n : ℕ)
    → P n (decimal n)
decimal_induction P one more n = below (suc n) n (omega arith)
  where
    below : (f n : ℕ) → n < f → P n (decimal n)
    below zero n h = absurd (omega arith)
    below (suc f) n h = choose (λ l. below f (n / 10) l) (below_or_from n 10)
      where
        choose : (n / 10 < f → P (n / 10) (decimal (n / 10))) → (n < 10) ⊎ (10 ≤ n) → P n (decimal n)
        choose front (inl l) = rw (decimal_of_digit n l) (one n l)
        choose front (inr l) =
            let whole : 10 * (n / 10) + n % 10 ≡ n = omega arith in
            let tenth : 1 ≤ n / 10 = omega arith in
            let last : n % 10 < 10 = omega arith in
            rw (← whole, decimal_of_more (n / 10) (n % 10) tenth last) (more (n / 10) (n % 10) tenth last
            (front (omega arith)))

-- ---- the number that it says

pub number_after_append : (n : ℕ) (a b : Bytes) → number_after n (a ++ b) ≡ number_after (number_after n a) b
number_after_append n [] b = refl
number_after_append n (d ∷ a) b = number_after_append (10 * n + (d - code "0")) a b

pub number_of_decimal : (n : ℕ) → number_of (decimal n) ≡ n
number_of_decimal =
    decimal_induction (λ n count. number_of count ≡ n) (λ n h. omega arith)
    (λ m d h k e. number_after_append 0 (decimal m) (digit d ∷ []) ∙ rw e (omega arith))

-- ---- its digits

pub is_digit_intro : (d : ℕ) → d < 10 → So (is_digit (digit d))
is_digit_intro d h = between_intro (code "0") (code "9") (digit d) (omega arith) (omega arith)

-- a digit is that of a number below ten
pub record DigitOf (b : ℕ) : Type 0 where
  pub number : ℕ
  pub small : number < 10
  pub spelled : b ≡ digit number

pub is_digit_elim : (b : ℕ) → So (is_digit b) → DigitOf b
is_digit_elim b e =
    let low = between_low (code "0") (code "9") b e in
    let high = between_high (code "0") (code "9") b e in
    record { number = b - code "0"; small = omega arith; spelled = omega arith }

-- one more digit behind digits
pub digits_and_one : (a : Bytes) (d : ℕ) → d < 10 → So (all is_digit a) → So (all is_digit (a ++ digit d ∷ []))
digits_and_one a d h e =
    rw (all_append is_digit a (digit d ∷ []))
    (and_intro (all is_digit a) (is_digit (digit d) && true) e (and_intro (is_digit (digit d)) true
    (is_digit_intro d h) refl))

pub decimal_digits : (n : ℕ) → So (all is_digit (decimal n))
decimal_digits =
    decimal_induction (λ n count. So (all is_digit count)) (λ n h. digits_and_one [] n h refl)
    (λ m d h k e. digits_and_one (decimal m) d k e)

-- ---- its length

-- a number below the power of ten to k + 1 has at most k + 1 digits
pub decimal_length : (k n : ℕ) → n < 10 ^ suc k → length (decimal n) ≤ suc k
decimal_length zero n h = rw (decimal_of_digit n h) (omega arith)
decimal_length (suc k) n h =
    ⊎_elim (λ (l : n < 10). rw (decimal_of_digit n l) (omega arith))
    (λ (l : 10 ≤ n).
    rw (decimal_of_tens n l, length-append (decimal (n / 10)) (digit (n % 10) ∷ []))
    (omega (arith, decimal_length k (n / 10) (omega (arith, pow-suc 10 k, pow-suc 10 (suc k))))))
    (below_or_from n 10)

pub decimal_length_three : (n : ℕ) → n < 1_000 → length (decimal n) ≤ 3
decimal_length_three = decimal_length 2
