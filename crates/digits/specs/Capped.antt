-- Digits read into a number of the machine, which stops at a cap. Digits that say a lesser number are read as that
-- number, and any others as the cap, whatever their length is. A count of a book stops at a bound that no number of
-- lines of a book reaches, so a comparison with a number of lines comes out as it should.
use Rattle.std.specs.Prelude.{ℕ, suc, ◌+◌, ◌-◌, ◌*◌, ◌^◌, ◌<◌, min, ◌≡◌, refl, Bool, true, false, cond, [], ◌∷◌, eqb}
use Rattle.std.specs.Prelude.{length, get_or, drop, Option, Some, None}
use Prim.Native.Char.{code}
use Rattle.std.proofs.Common.{add-one, arith, sym, ap, eqb-true, eq-eqb, ne_eqb, drop-cons}
use Rattle.std.proofs.Math.Bool.{So}
use Rattle.spec.specs.Vocabulary.{all}
use Rattle.spec.specs.Limits.{book_limit}
use Rattle.spec.specs.Text.{Bytes}
use Rattle.spec.specs.Decimal.{is_digit, is_count, number_after, number_of}
use Rattle.bits.specs.Truth.{fails_unless, same_truth}

-- one more than a book has bytes
unfoldable pub count_cap : ℕ
unfolding book_limit
count_cap = suc book_limit

-- no cap of a reader is greater, so that ten times a number up to it, and a digit more, is a number of the machine
abbrev pub cap_most : ℕ
cap_most = 2 ^ 32

-- a number, or the cap where it is greater
abbrev pub up_to : ℕ → ℕ → ℕ
up_to cap n = min cap n

-- what digits say, after those that said n
abbrev pub digits_read : ℕ → ℕ → Bytes → Option ℕ
digits_read cap n digits = cond (all is_digit digits) (Some (up_to cap (number_after n digits))) None

-- what a count says, read up to the bound
abbrev pub capped : ℕ → ℕ
capped n = up_to count_cap n

abbrev pub count_read : Bytes → Option ℕ
count_read digits = cond (is_count digits) (Some (capped (number_of digits))) None

-- ---- digit by digit

module _ (cap : ℕ) where
  -- numbers that are read alike are read alike with digits behind them
  up_to_after : (m n : ℕ) (digits : Bytes) → up_to cap m ≡ up_to cap n
      → up_to cap (number_after m digits) ≡ up_to cap (number_after n digits)
  up_to_after m n [] e = e
  up_to_after m n (b ∷ digits) e = up_to_after (10 * m + (b - code "0")) (10 * n + (b - code "0")) digits
      (more (b - code "0"))
    where
      more : (d : ℕ) → up_to cap (10 * m + d) ≡ up_to cap (10 * n + d)
      more d = omega arith

  up_to_twice : (n : ℕ) → up_to cap (up_to cap n) ≡ up_to cap n
  up_to_twice n = omega arith

  digits_next : (n b : ℕ) (digits : Bytes) → So (is_digit b)
      → digits_read cap n (b ∷ digits) ≡ digits_read cap (up_to cap (10 * n + (b - code "0"))) digits
  digits_next n b digits e =
      let m = 10 * n + (b - code "0") in
      rw (e, up_to_after m (up_to cap m) digits (sym (up_to_twice m)))

  -- the digits from a place on, where there is one
  pub digits_next_at : (n : ℕ) (field : Bytes) (i : ℕ) → i < length field → So (is_digit (get_or field i 0))
      → digits_read cap n (drop i field)
      ≡ digits_read cap (up_to cap (10 * n + (get_or field i 0 - code "0"))) (drop (i + 1) field)
  digits_next_at n field i h e =
      rw (add-one i, drop-cons field i 0 h) (digits_next n (get_or field i 0) (drop (suc i) field) e)

  -- and where there is none
  pub digits_off_at : (n : ℕ) (field : Bytes) (i : ℕ) → i < length field → (So (is_digit (get_or field i 0)) → ⊥)
      → digits_read cap n (drop i field) ≡ None
  digits_off_at n field i h e = rw (drop-cons field i 0 h, fails_unless (is_digit (get_or field i 0)) e)

-- ---- the first digit

pub no_digits : (digits : Bytes) → length digits ≡ 0 → count_read digits ≡ None
no_digits [] e = refl
no_digits (b ∷ digits) e = absurd (omega arith)

pub count_zero : (digits : Bytes) → length digits ≡ 1 → get_or digits 0 0 ≡ code "0" → count_read digits ≡ Some 0
count_zero [] h e = absurd (omega arith)
count_zero (b ∷ []) h e = rw e (ap Some capped_none)
  where
    capped_none : capped 0 ≡ 0
    capped_none = omega arith
count_zero (b ∷ next ∷ digits) h e = absurd (omega arith)

pub leading_zero : (digits : Bytes) → (length digits ≡ 1 → ⊥) → get_or digits 0 0 ≡ code "0" → (length digits ≡ 0 → ⊥)
    → count_read digits ≡ None
leading_zero [] h e some = absurd (some refl)
leading_zero (b ∷ []) h e some = absurd (h refl)
leading_zero (b ∷ next ∷ digits) h e some = rw e

pub no_leading_zero : (digits : Bytes) → (length digits ≡ 0 → ⊥) → (get_or digits 0 0 ≡ code "0" → ⊥)
    → count_read digits ≡ digits_read count_cap 0 digits
no_leading_zero [] some other = absurd (some refl)
no_leading_zero (b ∷ digits) some other = rw (ne_eqb b (code "0") other)

-- ---- what was read

-- a count that was read
pub record CountSaid (digits : Bytes) (n : ℕ) : Type 0 where
  pub count : So (is_count digits)
  pub number : n ≡ capped (number_of digits)

pub count_said : (digits : Bytes) (n : ℕ) → Some n ≡ count_read digits → CountSaid digits n
count_said digits n e = choose (is_count digits) refl e
  where
    choose : (t : Bool) → is_count digits ≡ t → Some n ≡ cond t (Some (capped (number_of digits))) None
        → CountSaid digits n
    choose true p q = record { count = p; number = cc }
    choose false p q = absurd (let z : ◌≡◌ {A = ℕ} 0 1 = cc in omega arith)

pub count_refused : (digits : Bytes) → None ≡ count_read digits → So (is_count digits) → ⊥
count_refused digits e p =
    let q : None ≡ Some (capped (number_of digits)) = rw p at e in
    let z : ◌≡◌ {A = ℕ} 0 1 = cc in
    omega arith

-- a number below the bound is compared as it is
pub capped_test : (m n : ℕ) → n < count_cap → eqb (capped m) n ≡ eqb m n
capped_test m n h =
    same_truth (eqb (capped m) n) (eqb m n)
    (λ t. eq-eqb m n (let s = eqb-true (capped m) n t in omega arith))
    (λ t. eq-eqb (capped m) n (let s = eqb-true m n t in omega arith))
