-- Counts of tests that are joined by and, or and not, of a test with one number put in or taken out, and of two tests
-- with a map between them. The first group compares number by number; the second follows from it, since the number
-- put in is counted once; for the map, each number taken out on the left takes its image out on the right.
use Rattle.std.specs.Prelude.{◌≡◌, refl, Bool, true, false, not, ◌&&◌, ◌||◌, ℕ, zero, suc, ◌+◌, ◌≤◌, ◌<◌, eqb}
use Rattle.std.proofs.Common.{sym, ◌∙◌, ⊎_elim, le_refl, not-suc-le-zero, arith, eqb-true, eq-eqb, ne_eqb}
use Rattle.std.proofs.Math.Bool.{So, and-false}
use Rattle.std.proofs.Math.Nat.{le_step}
use Rattle.std.proofs.lemmas.Bool.{not-false}
use Rattle.bits.specs.Truth.{passes_or_fails, same_truth, not_passes, and_intro}
use Rattle.bits.specs.Counting.{one_if, count_below}
use Rattle.bits.specs.Laws.Below.{last_or_below}
use Rattle.bits.specs.Laws.Count.{count_below_ext, count_below_none_intro, count_below_none_elim}

-- ---- and, or, not

one_if_or_and : (a b : Bool) → one_if (a || b) + one_if (a && b) ≡ one_if a + one_if b
one_if_or_and true true = refl
one_if_or_and true false = refl
one_if_or_and false true = refl
one_if_or_and false false = refl

one_if_split : (a b : Bool) → one_if a ≡ one_if (a && b) + one_if (a && not b)
one_if_split true true = refl
one_if_split true false = refl
one_if_split false b = refl

-- what both take is counted twice on the right, and twice on the left
pub count_below_or_and : (n : ℕ) (f g : ℕ → Bool)
    → count_below n (λ i. f i || g i) + count_below n (λ i. f i && g i) ≡ count_below n f + count_below n g
unfolding count_below
count_below_or_and zero f g = refl
count_below_or_and (suc n) f g = omega (arith, count_below_or_and n f g, one_if_or_and (f n) (g n))

pub count_below_split : (n : ℕ) (f g : ℕ → Bool)
    → count_below n f ≡ count_below n (λ i. f i && g i) + count_below n (λ i. f i && not (g i))
unfolding count_below
count_below_split zero f g = refl
count_below_split (suc n) f g = omega (arith, count_below_split n f g, one_if_split (f n) (g n))

-- two tests that share no number
pub count_below_or : (n : ℕ) (f g : ℕ → Bool) → ((i : ℕ) → i < n → (f i && g i) ≡ false)
    → count_below n (λ i. f i || g i) ≡ count_below n f + count_below n g
count_below_or n f g h = omega (arith, count_below_or_and n f g, count_below_none_intro n (λ i. f i && g i) h)

-- ---- one number put in or taken out

pub count_below_only : (n : ℕ) {p : ℕ} → p < n → count_below n (λ i. eqb i p) ≡ 1
unfolding count_below
count_below_only zero l = absurd (not-suc-le-zero l)
count_below_only (suc n) {p} l =
    ⊎_elim
    (λ e. rw (count_below_none_intro n (λ i. eqb i p) (λ i k. ne_eqb i p (omega arith)), eq-eqb n p (sym e)))
    (λ (k : p < n). rw (count_below_only n k, ne_eqb n p (omega arith)))
    (last_or_below l)

pub count_below_with : (n : ℕ) (f : ℕ → Bool) {p : ℕ} → p < n → f p ≡ false
    → count_below n (λ i. f i || eqb i p) ≡ count_below n f + 1
count_below_with n f {p} l e =
    count_below_or n f (λ i. eqb i p) apart ∙ rw (count_below_only n l)
  where
    apart : (i : ℕ) → i < n → (f i && eqb i p) ≡ false
    apart i k = ⊎_elim (λ q. rw (eqb-true i p q, e)) (λ q. rw q (and-false (f i))) (passes_or_fails (eqb i p))

pub count_below_without : (n : ℕ) (f : ℕ → Bool) {p : ℕ} → p < n → So (f p)
    → count_below n f ≡ count_below n (λ i. f i && not (eqb i p)) + 1
count_below_without n f {p} l e = omega (arith, count_below_split n f (λ i. eqb i p), only)
  where
    at_p : (i : ℕ) → i < n → (f i && eqb i p) ≡ eqb i p
    at_p i k = ⊎_elim (λ q. rw (eqb-true i p q, e)) (λ q. rw q (and-false (f i))) (passes_or_fails (eqb i p))

    only : count_below n (λ i. f i && eqb i p) ≡ 1
    only = count_below_ext n (λ i. f i && eqb i p) (λ i. eqb i p) at_p ∙ count_below_only n l

-- ---- a count of 1: one number passes, and no other

pub count_below_one_intro : (n : ℕ) (f : ℕ → Bool) {i : ℕ} → i < n → So (f i) → ((j : ℕ) → j < n → So (f j) → j ≡ i)
    → count_below n f ≡ 1
count_below_one_intro n f {i} l p h =
    count_below_ext n f (λ j. eqb j i) (λ j k. same_truth (f j) (eqb j i) (λ q. eq-eqb j i (h j k q))
    (λ q. rw (eqb-true j i q) p))
    ∙ count_below_only n l

pub count_below_one_elim : (n : ℕ) (f : ℕ → Bool) → count_below n f ≡ 1 → {i j : ℕ} → i < n → So (f i) → j < n
    → So (f j) → j ≡ i
count_below_one_elim n f e {i} {j} at_i pass-i at_j pass-j =
    eqb-true j i (not-false (eqb j i) (rw pass-j at (count_below_none_elim n (λ k. f k && not (eqb k i)) others at_j)))
  where
    others : count_below n (λ k. f k && not (eqb k i)) ≡ 0
    others = omega (arith, count_below_without n f at_i pass-i)

-- ---- a map that sends what f takes to what g takes, no two to one

pub count_below_injects : (n m : ℕ) (f g : ℕ → Bool) (image : ℕ → ℕ)
    → ((i : ℕ) → i < n → So (f i) → image i < m)
    → ((i : ℕ) → i < n → So (f i) → So (g (image i)))
    → ((i j : ℕ) → i < n → j < n → So (f i) → So (f j) → image i ≡ image j → i ≡ j)
    → count_below n f ≤ count_below m g
unfolding count_below
count_below_injects zero m f g image into lands apart = omega arith
count_below_injects (suc n) m f g image into lands apart =
    ⊎_elim
    (λ p. rw p (omega (
      arith,
      count_below_without m g (into n (le_refl (suc n)) p) (lands n (le_refl (suc n)) p),
      count_below_injects n m f (λ k. g k && not (eqb k (image n))) image (λ i l. into i (le_step l)) (other p)
          (λ i j k l. apart i j (le_step k) (le_step l)),
    )))
    (λ p. rw p (omega (
      arith,
      count_below_injects n m f g image (λ i l. into i (le_step l)) (λ i l. lands i (le_step l))
          (λ i j k l. apart i j (le_step k) (le_step l)),
    )))
    (passes_or_fails (f n))
  where
    other : So (f n) → (i : ℕ) → i < n → So (f i) → So (g (image i) && not (eqb (image i) (image n)))
    other p i l q =
        and_intro (g (image i)) (not (eqb (image i) (image n))) (lands i (le_step l) q)
        (not_passes (eqb (image i) (image n))
        (ne_eqb (image i) (image n) (λ e. omega (arith, apart i n (le_step l) (le_refl (suc n)) q p e))))
