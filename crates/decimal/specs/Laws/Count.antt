-- A number's decimal is a count of the book's form, and the only count that says the number: a count is `0`, or
-- digits that do not begin with `0`, and each digit read makes the number just as one more digit writes it.
use Rattle.std.specs.Prelude.{ℕ, zero, suc, ◌+◌, ◌-◌, ◌*◌, ◌≤◌, ◌<◌, ◌≡◌, refl, ◌⊎◌, Bool, true, false, ◌&&◌, cond, []}
use Rattle.std.specs.Prelude.{◌∷◌, ◌++◌, eqb, length}
use Prim.Native.Char.{code}
use Rattle.std.proofs.Common.{arith, sym, ap, ◌∙◌, inl, inr, append_assoc, append-nil, ne_eqb, eqb-true}
use Rattle.std.proofs.Math.Bool.{So}
use Rattle.std.proofs.lemmas.Bool.{false≢true, eqb-false}
use Rattle.spec.specs.Vocabulary.{empty, all}
use Rattle.spec.specs.Text.{Bytes}
use Rattle.spec.specs.Decimal.{digit, decimal, is_digit, is_count, number_after, number_of}
use Rattle.bits.specs.Truth.{and_intro, and_left, and_right}
use Rattle.decimal.specs.Laws.Decimal.{decimal_of_digit, decimal_of_more, decimal_induction, number_of_decimal}
use Rattle.decimal.specs.Laws.Decimal.{DigitOf, is_digit_intro, is_digit_elim, digits_and_one}
use Rattle.decimal.specs.Laws.Decimal.{decimal_digits}

-- ---- a number's decimal is a count

-- digits that do not begin with `0`
pub record Leading (b : ℕ) (rest : Bytes) : Type 0 where
  pub first : DigitOf b
  pub some_number : 1 ≤ first.number
  pub digits : So (all is_digit rest)

-- a count is `0` or does not begin with it
pub count_cases : (b : ℕ) (rest : Bytes) → So (is_count (b ∷ rest)) → ((b ≡ code "0") × (rest ≡ [])) ⊎ Leading b rest
count_cases b rest e = choose (eqb b (code "0")) refl e
  where
    nothing : (l : Bytes) → So (empty l) → l ≡ []
    nothing [] p = refl
    nothing (c ∷ l) p = absurd (false≢true p)

    choose : (t : Bool) → eqb b (code "0") ≡ t → So (cond t (empty rest) (is_digit b && all is_digit rest))
        → ((b ≡ code "0") × (rest ≡ [])) ⊎ Leading b rest
    choose true p q = inl (eqb-true b (code "0") p, nothing rest q)
    choose false p q =
        let d = is_digit_elim b (and_left (is_digit b) (all is_digit rest) q) in
        inr (record {
          first = d;
          some_number = positive d.number (λ z. eqb-false b (code "0") p (d.spelled ∙ ap digit z));
          digits = and_right (is_digit b) (all is_digit rest) q;
        })
      where
        positive : (n : ℕ) → (n ≡ 0 → ⊥) → 1 ≤ n
        positive zero h = absurd (h refl)
        positive (suc n) h = omega arith

-- and what does not begin with it is a count
pub leading_is_count : (b : ℕ) (rest : Bytes) → Leading b rest → So (is_count (b ∷ rest))
leading_is_count b rest l =
    let d = l.first in
    rw (ne_eqb b (code "0") (λ (z : b ≡ code "0"). omega (arith, d.spelled, l.some_number)), d.spelled)
    (and_intro (is_digit (digit d.number)) (all is_digit rest) (is_digit_intro d.number d.small) l.digits)

-- one digit is a count
digit_is_count : (n : ℕ) → n < 10 → So (is_count (digit n ∷ []))
digit_is_count zero h = refl
digit_is_count (suc n) h =
    leading_is_count (digit (suc n)) []
    (record { first = record { number = suc n; small = h; spelled = refl }; some_number = omega arith; digits = refl })

-- a count of 1 or more stays a count with one more digit behind it
count_and_one : (a : Bytes) (d : ℕ) → d < 10 → So (is_count a) → 1 ≤ number_of a → So (is_count (a ++ digit d ∷ []))
count_and_one [] d h e l = absurd (false≢true e)
count_and_one (b ∷ rest) d h e l = choose (count_cases b rest e)
  where
    choose : ((b ≡ code "0") × (rest ≡ [])) ⊎ Leading b rest → So (is_count (b ∷ (rest ++ digit d ∷ [])))
    choose (inl z) = absurd (omega (arith, rw (z.0, z.1) at l))
    choose (inr w) =
        leading_is_count b (rest ++ digit d ∷ [])
        (record { first = w.first; some_number = w.some_number; digits = digits_and_one rest d h w.digits })

pub decimal_is_count : (n : ℕ) → So (is_count (decimal n))
decimal_is_count =
    decimal_induction (λ n count. So (is_count count)) digit_is_count
    (λ m d h k e. count_and_one (decimal m) d k e (rw (number_of_decimal m) h))

-- ---- only one count says a number

-- digits behind a count of 1 or more
after_is_decimal : (n : ℕ) (a : Bytes) → 1 ≤ n → So (all is_digit a) → decimal (number_after n a) ≡ decimal n ++ a
after_is_decimal n [] h e = sym (append-nil (decimal n))
after_is_decimal n (b ∷ a) h e =
    let d = is_digit_elim b (and_left (is_digit b) (all is_digit a) e) in
    let more : 10 * n + (b - code "0") ≡ 10 * n + d.number = omega (arith, d.spelled) in
    after_is_decimal (10 * n + (b - code "0")) a (omega arith) (and_right (is_digit b) (all is_digit a) e)
    ∙ rw (
      more,
      decimal_of_more n d.number h d.small,
      append_assoc (decimal n) (digit d.number ∷ []) a,
      ← d.spelled,
    )

-- a count is the decimal count of the number that it says
pub count_is_decimal : (a : Bytes) → So (is_count a) → decimal (number_of a) ≡ a
count_is_decimal [] e = absurd (false≢true e)
count_is_decimal (b ∷ a) e = choose (count_cases b a e)
  where
    choose : ((b ≡ code "0") × (a ≡ [])) ⊎ Leading b a → decimal (number_of (b ∷ a)) ≡ b ∷ a
    choose (inl z) = rw (z.0, z.1) (decimal_of_digit 0 (omega arith))
    choose (inr w) =
        let d = w.first in
        let first : 10 * 0 + (b - code "0") ≡ d.number = omega (arith, d.spelled) in
        rw first
        (after_is_decimal d.number a w.some_number w.digits
        ∙ rw (decimal_of_digit d.number d.small, ← d.spelled))

-- ---- the bytes of a count

-- a count has a digit
pub count_has_digit : (a : Bytes) → So (is_count a) → 1 ≤ length a
count_has_digit [] e = absurd (false≢true e)
count_has_digit (b ∷ a) e = omega arith

-- the bytes of a count are digits
pub count_digits : (a : Bytes) → So (is_count a) → So (all is_digit a)
count_digits a e = rw (count_is_decimal a e) at (decimal_digits (number_of a))
