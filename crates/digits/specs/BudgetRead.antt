-- A budget read up to one past the greatest: digits that say a budget are read as that number, and any other word as
-- no number, whatever its length is. The number of searches of the long search is read through it. Assumes nothing.
use Rattle.std.specs.Prelude.{ℕ, suc, ◌≤◌, ◌<◌, ◌≡◌, refl, Bool, true, false, ◌&&◌, not, cond, [], ◌∷◌, eqb, leb, ltb}
use Rattle.std.specs.Prelude.{length, Option, Some, None}
use Rattle.std.proofs.Common.{arith, ap, ⊎_elim, le-leb, lt-ltb, le-ltb, eq-eqb, ne_eqb}
use Rattle.std.proofs.lemmas.Bool.{lt-leb}
use Rattle.spec.specs.Vocabulary.{all}
use Rattle.spec.specs.Limits.{budget_limit, usual_rounds}
use Rattle.spec.specs.Text.{Bytes}
use Rattle.spec.specs.Decimal.{is_digit, number_of}
use Rattle.spec.specs.Program.{is_budget, budget_of}
use Rattle.spec.specs.LongSearch.{is_rounds, rounds_of}
use Rattle.bits.specs.Laws.Below.{below_or_from}
use Rattle.digits.specs.Capped.{up_to, digits_read}

-- one more than the greatest budget
unfoldable pub budget_cap : ℕ
unfolding budget_limit
budget_cap = suc budget_limit

-- what digits that are read up to the bound say
abbrev pub budget_within : Option ℕ → Option ℕ
budget_within (Some n) = cond (ltb n budget_cap) (Some n) None
budget_within None = None

-- what a word says
abbrev pub budget_read : Bytes → Option ℕ
budget_read word = cond (is_budget word) (Some (number_of word)) None

pub no_digits : (word : Bytes) → length word ≡ 0 → budget_read word ≡ None
unfolding is_budget
no_digits [] e = refl
no_digits (b ∷ rest) e = absurd (omega arith)

-- and any other as its digits say
pub as_digits_say : (word : Bytes) → (length word ≡ 0 → ⊥)
    → budget_read word ≡ budget_within (digits_read budget_cap 0 word)
unfolding is_budget budget_cap
as_digits_say [] some = absurd (some refl)
as_digits_say (b ∷ rest) some = choose (all is_digit (b ∷ rest)) (number_of (b ∷ rest))
  where
    choose : (digits : Bool) (n : ℕ)
        → cond (digits && leb n budget_limit) (Some n) None
        ≡ budget_within (cond digits (Some (up_to budget_cap n)) None)
    choose true n =
        ⊎_elim
        (λ (l : n < budget_cap).
        rw (le-leb n budget_limit (omega arith), lt-ltb (up_to budget_cap n) budget_cap (omega arith))
        (ap Some (omega arith)))
        (λ (l : budget_cap ≤ n).
        rw (lt-leb n budget_limit (omega arith), le-ltb (up_to budget_cap n) budget_cap (omega arith)))
        (below_or_from n budget_cap)
    choose false n = refl

-- the budget that a word gives, by what it says: 0 where that is no number
abbrev pub budget_said : Option ℕ → ℕ
budget_said (Some n) = n
budget_said None = 0

pub budget_is_said : (word : Bytes) → budget_said (budget_read word) ≡ budget_of (word ∷ [])
unfolding budget_of
budget_is_said word = choose (is_budget word)
  where
    choose : (t : Bool) → budget_said (cond t (Some (number_of word)) None) ≡ cond t (number_of word) 0
    choose true = refl
    choose false = refl

-- ---- the number of searches

-- a word that gives no budget, or 0, gives the usual number
pub usual_where_none : (word : Bytes) → budget_of (word ∷ []) ≡ 0 → usual_rounds ≡ rounds_of (word ∷ [])
unfolding budget_of rounds_of is_rounds
usual_where_none word = choose (is_budget word) (number_of word)
  where
    choose : (t : Bool) (n : ℕ) → cond t n 0 ≡ 0 → usual_rounds ≡ cond (t && not (eqb n 0)) n usual_rounds
    choose true n z = rw (eq-eqb n 0 z)
    choose false n z = refl

-- and any other its budget
pub rounds_are_the_budget : (word : Bytes) → (budget_of (word ∷ []) ≡ 0 → ⊥) → budget_of (word ∷ []) ≡ rounds_of
    (word ∷ [])
unfolding budget_of rounds_of is_rounds
rounds_are_the_budget word = choose (is_budget word) (number_of word)
  where
    choose : (t : Bool) (n : ℕ) → (cond t n 0 ≡ 0 → ⊥) → cond t n 0 ≡ cond (t && not (eqb n 0)) n usual_rounds
    choose true n some = rw (ne_eqb n 0 some)
    choose false n some = absurd (some refl)
