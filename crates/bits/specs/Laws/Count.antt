-- How many numbers below a bound pass a test. The count of a bound one greater is the count so far, and 1 more where
-- the last number passes: so every law is an induction on the bound that compares what the last number adds on both
-- sides.
use Rattle.std.specs.Prelude.{◌≡◌, refl, Bool, true, false, ℕ, zero, suc, ◌+◌, ◌≤◌, ◌<◌}
use Rattle.std.proofs.Common.{⊎_elim, add-zero, add-suc, le_refl, not-suc-le-zero, arith}
use Rattle.std.proofs.Math.Bool.{So}
use Rattle.std.proofs.lemmas.Bool.{false≢true}
use Rattle.std.proofs.Math.Nat.{le_step, le_dest}
use Rattle.bits.specs.Truth.{fails_unless}
use Rattle.bits.specs.Counting.{one_if, count_below}
use Rattle.bits.specs.Laws.Below.{last_or_below}

-- ---- what one number adds

one_if_le : (b : Bool) → one_if b ≤ 1
one_if_le true = omega arith
one_if_le false = omega arith

one_if_mono : (a b : Bool) → (So a → So b) → one_if a ≤ one_if b
one_if_mono true b h = rw (h refl) (omega arith)
one_if_mono false b h = omega arith

-- ---- bounds and comparisons

pub count_below_le : (n : ℕ) (f : ℕ → Bool) → count_below n f ≤ n
unfolding count_below
count_below_le zero f = omega arith
count_below_le (suc n) f = omega (arith, count_below_le n f, one_if_le (f n))

pub count_below_ext : (n : ℕ) (f g : ℕ → Bool) → ((i : ℕ) → i < n → f i ≡ g i) → count_below n f ≡ count_below n g
unfolding count_below
count_below_ext zero f g h = refl
count_below_ext (suc n) f g h = rw (count_below_ext n f g (λ i l. h i (le_step l)), h n (le_refl (suc n)))

pub count_below_mono : (n : ℕ) (f g : ℕ → Bool) → ((i : ℕ) → i < n → So (f i) → So (g i))
    → count_below n f ≤ count_below n g
unfolding count_below
count_below_mono zero f g h = omega arith
count_below_mono (suc n) f g h =
    omega (arith, count_below_mono n f g (λ i l. h i (le_step l)), one_if_mono (f n) (g n) (h n (le_refl (suc n))))

-- one number that only g takes makes the difference
pub count_below_less : (n : ℕ) (f g : ℕ → Bool) → ((i : ℕ) → i < n → So (f i) → So (g i)) → {i : ℕ} → i < n
    → f i ≡ false → So (g i)
    → count_below n f < count_below n g
unfolding count_below
count_below_less zero f g h l p q = absurd (not-suc-le-zero l)
count_below_less (suc n) f g h l p q =
    ⊎_elim
    (λ e. rw (rw e at p, rw e at q) (omega (arith, count_below_mono n f g (λ i l. h i (le_step l)))))
    (λ k. omega (
      arith,
      count_below_less n f g (λ i l. h i (le_step l)) k p q,
      one_if_mono (f n) (g n)
          (h n (le_refl (suc n))),
    ))
    (last_or_below l)

-- the numbers below a + b are those below a, and a and more
pub count_below_add : (a b : ℕ) (f : ℕ → Bool) → count_below (a + b) f ≡ count_below a f + count_below b
    (λ i. f (a + i))
unfolding count_below
count_below_add a zero f = rw (add-zero a) (omega arith)
count_below_add a (suc b) f = rw (add-suc a b, count_below_add a b f) (omega arith)

pub count_below_first : (n : ℕ) (f : ℕ → Bool) → count_below (suc n) f ≡ one_if (f 0) + count_below n (λ i. f (suc i))
unfolding count_below
count_below_first zero f = omega arith
count_below_first (suc n) f = omega (arith, count_below_first n f)

pub count_below_more : (m n : ℕ) (f : ℕ → Bool) → m ≤ n → count_below m f ≤ count_below n f
count_below_more m n f h = let k = le_dest h in rw (← k.1, count_below_add m k.0 f) (omega arith)

-- ---- none and all

pub count_below_none_intro : (n : ℕ) (f : ℕ → Bool) → ((i : ℕ) → i < n → f i ≡ false) → count_below n f ≡ 0
unfolding count_below
count_below_none_intro zero f h = refl
count_below_none_intro (suc n) f h = rw (count_below_none_intro n f (λ i l. h i (le_step l)), h n (le_refl (suc n)))

pub count_below_pos : (n : ℕ) (f : ℕ → Bool) {i : ℕ} → i < n → So (f i) → 0 < count_below n f
count_below_pos n f l p =
    rw (count_below_none_intro n (λ i. false) (λ i l. refl)) at
    (count_below_less n (λ i. false) f (λ i l q. absurd (false≢true q)) l refl p)

pub count_below_none_elim : (n : ℕ) (f : ℕ → Bool) → count_below n f ≡ 0 → {i : ℕ} → i < n → f i ≡ false
count_below_none_elim n f e {i} l = fails_unless (f i) (λ p. omega (arith, count_below_pos n f l p))

pub count_below_all_intro : (n : ℕ) (f : ℕ → Bool) → ((i : ℕ) → i < n → So (f i)) → count_below n f ≡ n
unfolding count_below
count_below_all_intro zero f h = refl
count_below_all_intro (suc n) f h =
    rw (count_below_all_intro n f (λ i l. h i (le_step l)), h n (le_refl (suc n))) (omega arith)
