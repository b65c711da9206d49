-- What the lowest number below a bound is: a number that passes with none before it, and there is one unless every
-- number fails. Each law is an induction on the bound, or follows from `lowest_below_cases` and the two laws of
-- introduction.
use Rattle.std.specs.Prelude.{◌≡◌, refl, ◌⊎◌, Bool, false, ℕ, zero, suc, ◌≤◌, ◌<◌}
use Rattle.std.proofs.Common.{sym, ◌∙◌, inl, inr, ⊎_elim, suc-le-suc, le_refl, le_of_suc-le-suc, lt_of_not-le, lt_trans, not-suc-le-zero, zero-lt-suc, arith}
use Rattle.std.proofs.Math.Bool.{So}
use Rattle.std.proofs.Math.Option.{none, some}
use Rattle.std.proofs.Math.Nat.{le_step}
use Rattle.spec.specs.Vocabulary.{lowest_below}
use Rattle.bits.specs.Truth.{passes_or_fails, not_both}
use Rattle.bits.specs.Counting.{some_below, Lowest}
use Rattle.bits.specs.Laws.Below.{last_or_below, some_below_elim}

pub lowest_below_none_intro : (n : ℕ) (f : ℕ → Bool) → ((i : ℕ) → i < n → f i ≡ false) → lowest_below n f ≡ none
unfolding lowest_below
lowest_below_none_intro zero f h = refl
lowest_below_none_intro (suc n) f h = rw (lowest_below_none_intro n f (λ i l. h i (le_step l)), h n (le_refl (suc n)))

pub lowest_below_intro : (n : ℕ) (f : ℕ → Bool) {i : ℕ} → Lowest n f i → lowest_below n f ≡ some i
unfolding lowest_below
lowest_below_intro zero f w = absurd (not-suc-le-zero w.within)
lowest_below_intro (suc n) f {i} w =
    ⊎_elim
    (λ e. rw (lowest_below_none_intro n f (λ j l. w.first j (rw e l)), ← e, w.holds))
    (λ l. rw (lowest_below_intro n f (record { within = l; holds = w.holds; first = w.first })))
    (last_or_below w.within)

-- either there is a lowest number, or every number fails
pub lowest_below_cases : (n : ℕ) (f : ℕ → Bool) → ((i : ℕ) × Lowest n f i) ⊎ ((i : ℕ) → i < n → f i ≡ false)
lowest_below_cases zero f = inr (λ i l. absurd (not-suc-le-zero l))
lowest_below_cases (suc n) f = one_more (lowest_below_cases n f) (passes_or_fails (f n))
  where
    one_more :
        ((i : ℕ) × Lowest n f i) ⊎ ((i : ℕ) → i < n → f i ≡ false) → So (f n) ⊎ (f n ≡ false)
        → ((i : ℕ) × Lowest (suc n) f i) ⊎ ((i : ℕ) → i < suc n → f i ≡ false)
    one_more (inl w) last = inl (
      w.0,
      record {
        within = le_step w.1.within;
        holds = w.1.holds;
        first =
            w.1.first;
      },
    )
    one_more (inr h) (inl p) = inl (n, record { within = le_refl (suc n); holds = p; first = h })
    one_more (inr h) (inr p) = inr (λ i l. ⊎_elim (λ e. rw e p) (h i) (last_or_below l))

pub lowest_below_elim : (n : ℕ) (f : ℕ → Bool) {i : ℕ} → lowest_below n f ≡ some i → Lowest n f i
lowest_below_elim n f {i} e = pick (lowest_below_cases n f)
  where
    pick : ((j : ℕ) × Lowest n f j) ⊎ ((j : ℕ) → j < n → f j ≡ false) → Lowest n f i
    pick (inl w) = let s = lowest_below_intro n f w.1 in let same : w.0 ≡ i = cc in rw same at w.1
    pick (inr h) = let s = lowest_below_none_intro n f h in let z : ◌≡◌ {A = ℕ} 0 1 = cc in absurd (omega arith)

pub lowest_below_none_elim : (n : ℕ) (f : ℕ → Bool) → lowest_below n f ≡ none → {i : ℕ} → i < n → f i ≡ false
lowest_below_none_elim n f e {i} l = pick (lowest_below_cases n f)
  where
    pick : ((j : ℕ) × Lowest n f j) ⊎ ((j : ℕ) → j < n → f j ≡ false) → f i ≡ false
    pick (inl w) = let s = lowest_below_intro n f w.1 in cc
    pick (inr h) = h i l

-- where some number passes, one of them is the lowest
pub lowest_below_found : (n : ℕ) (f : ℕ → Bool) → So (some_below n f) → (i : ℕ) × Lowest n f i
lowest_below_found n f e =
    ⊎_elim (λ w. w) (λ h. let r = some_below_elim n f e in absurd (not_both r.holds (h r.place r.within)))
    (lowest_below_cases n f)

-- nothing that passes is lower
pub lowest_le : {n : ℕ} {f : ℕ → Bool} {i j : ℕ} → Lowest n f i → So (f j) → i ≤ j
lowest_le {i} {j} w p = le_of_suc-le-suc (lt_of_not-le (λ (l : suc j ≤ i). not_both p (w.first j l)))

pub lowest_ext : {n : ℕ} {f g : ℕ → Bool} {i : ℕ} → ((j : ℕ) → j < n → f j ≡ g j) → Lowest n f i → Lowest n g i
lowest_ext {i} h w =
    record {
      within = w.within;
      holds = sym (h i w.within) ∙ w.holds;
      first = λ j l. sym (h j (lt_trans l w.within)) ∙ w.first j l;
    }

pub lowest_at_zero : {n : ℕ} {f : ℕ → Bool} → So (f 0) → Lowest (suc n) f 0
lowest_at_zero {n} p = record { within = zero-lt-suc n; holds = p; first = λ j l. absurd (not-suc-le-zero l) }

-- past a number 0 that fails
pub lowest_next : (n : ℕ) (f : ℕ → Bool) {i : ℕ} → f 0 ≡ false → Lowest n (λ j. f (suc j)) i → Lowest (suc n) f (suc i)
lowest_next n f {i} e w = record { within = suc-le-suc w.within; holds = w.holds; first = before }
  where
    before : (j : ℕ) → j < suc i → f j ≡ false
    before zero l = e
    before (suc j) l = w.first j (le_of_suc-le-suc l)

pub lowest_below_ext : (n : ℕ) (f g : ℕ → Bool) → ((i : ℕ) → i < n → f i ≡ g i) → lowest_below n f ≡ lowest_below n g
unfolding lowest_below
lowest_below_ext zero f g h = refl
lowest_below_ext (suc n) f g h = rw (lowest_below_ext n f g (λ i l. h i (le_step l)), h n (le_refl (suc n)))
