-- How to show and how to use that some or every number below a bound passes a test. Each law is an induction on the
-- bound: a number below `suc n` is n, or is below n.
use Rattle.std.specs.Prelude.{◌≡◌, refl, ◌⊎◌, Bool, false, not, ◌&&◌, ◌||◌, ℕ, zero, suc, ◌+◌, ◌≤◌, ◌<◌, ltb}
use Rattle.std.proofs.Common.{sym, ap, ◌∙◌, inl, inr, ⊎_elim, add-zero, add-suc, le_refl, le_of_suc-le-suc, not-suc-le-zero, eq-or-lt_of_le, arith, ltb-true, ltb-false}
use Rattle.std.proofs.Math.Bool.{So, or-false, and-true}
use Rattle.std.proofs.lemmas.Bool.{false≢true, not-false}
use Rattle.std.proofs.Math.Nat.{le_step}
use Rattle.spec.specs.Vocabulary.{every_below}
use Rattle.bits.specs.Truth.{passes_or_fails, not_both, fails_unless, same_truth, and_intro, and_left}
use Rattle.bits.specs.Truth.{and_right, and_left_comm, or_left, or_right, or_cases, or_left_comm, not_passes}
use Rattle.bits.specs.Truth.{not_fails}
use Rattle.bits.specs.Counting.{some_below, Found}

-- a number below suc n
pub last_or_below : {i n : ℕ} → i < suc n → (i ≡ n) ⊎ (i < n)
last_or_below l = eq-or-lt_of_le (le_of_suc-le-suc l)

pub below_or_from : (i n : ℕ) → (i < n) ⊎ (n ≤ i)
below_or_from i n =
    ⊎_elim (λ e. inl (ltb-true i n e)) (λ e. inr (ltb-false i n e)) (passes_or_fails (ltb i n))

-- ---- some

pub some_below_intro : (n : ℕ) (f : ℕ → Bool) {i : ℕ} → i < n → So (f i) → So (some_below n f)
unfolding some_below
some_below_intro zero f l p = absurd (not-suc-le-zero l)
some_below_intro (suc n) f l p =
    ⊎_elim (λ e. or_left (f n) (some_below n f) (rw e at p)) (λ k. or_right (f n) (some_below n f)
    (some_below_intro n f k p))
    (last_or_below l)

pub some_below_elim : (n : ℕ) (f : ℕ → Bool) → So (some_below n f) → Found n f
unfolding some_below
some_below_elim zero f e = absurd (false≢true e)
some_below_elim (suc n) f e =
    ⊎_elim (λ p. record { place = n; within = le_refl (suc n); holds = p }) (λ q. later (some_below_elim n f q))
    (or_cases (f n) (some_below n f) e)
  where
    later : Found n f → Found (suc n) f
    later r = record { place = r.place; within = le_step r.within; holds = r.holds }

pub none_below_intro : (n : ℕ) (f : ℕ → Bool) → ((i : ℕ) → i < n → f i ≡ false) → some_below n f ≡ false
none_below_intro n f h =
    fails_unless (some_below n f) (λ e. let r = some_below_elim n f e in not_both r.holds (h r.place r.within))

pub none_below_elim : (n : ℕ) (f : ℕ → Bool) → some_below n f ≡ false → {i : ℕ} → i < n → f i ≡ false
none_below_elim n f e {i} l = fails_unless (f i) (λ p. not_both (some_below_intro n f l p) e)

pub some_below_mono : (n : ℕ) (f g : ℕ → Bool) → ((i : ℕ) → i < n → So (f i) → So (g i)) → So (some_below n f)
    → So (some_below n g)
some_below_mono n f g h e =
    let r = some_below_elim n f e in some_below_intro n g r.within (h r.place r.within r.holds)

pub some_below_ext : (n : ℕ) (f g : ℕ → Bool) → ((i : ℕ) → i < n → f i ≡ g i) → some_below n f ≡ some_below n g
some_below_ext n f g h =
    same_truth (some_below n f) (some_below n g) (some_below_mono n f g (λ i l p. sym (h i l) ∙ p))
    (some_below_mono n g f (λ i l p. h i l ∙ p))

pub some_below_more : (m n : ℕ) (f : ℕ → Bool) → m ≤ n → So (some_below m f) → So (some_below n f)
some_below_more m n f l e = let r = some_below_elim m f e in some_below_intro n f (omega arith) r.holds

-- the numbers below a + b are those below a, and a and more
pub some_below_add : (a b : ℕ) (f : ℕ → Bool) → some_below (a + b) f ≡ (some_below a f || some_below b (λ i. f (a + i)))
unfolding some_below
some_below_add a zero f = rw (add-zero, or-false)
some_below_add a (suc b) f =
    rw (add-suc, some_below_add a b f) (or_left_comm (f (a + b)) (some_below a f) (some_below b (λ i. f (a + i))))

-- ---- every

pub every_below_intro : (n : ℕ) (f : ℕ → Bool) → ((i : ℕ) → i < n → So (f i)) → So (every_below n f)
unfolding every_below
every_below_intro zero f h = refl
every_below_intro (suc n) f h =
    and_intro (f n) (every_below n f) (h n (le_refl (suc n))) (every_below_intro n f (λ i l. h i (le_step l)))

pub every_below_elim : (n : ℕ) (f : ℕ → Bool) → So (every_below n f) → {i : ℕ} → i < n → So (f i)
unfolding every_below
every_below_elim zero f e l = absurd (not-suc-le-zero l)
every_below_elim (suc n) f e l =
    ⊎_elim (λ s. rw s (and_left (f n) (every_below n f) e))
    (λ k. every_below_elim n f (and_right (f n) (every_below n f) e) k) (last_or_below l)

pub missed_below_intro : (n : ℕ) (f : ℕ → Bool) {i : ℕ} → i < n → f i ≡ false → every_below n f ≡ false
missed_below_intro n f l p = fails_unless (every_below n f) (λ e. not_both (every_below_elim n f e l) p)

pub every_below_mono : (n : ℕ) (f g : ℕ → Bool) → ((i : ℕ) → i < n → So (f i) → So (g i)) → So (every_below n f)
    → So (every_below n g)
every_below_mono n f g h e = every_below_intro n g (λ i l. h i l (every_below_elim n f e l))

pub every_below_ext : (n : ℕ) (f g : ℕ → Bool) → ((i : ℕ) → i < n → f i ≡ g i) → every_below n f ≡ every_below n g
every_below_ext n f g h =
    same_truth (every_below n f) (every_below n g) (every_below_mono n f g (λ i l p. sym (h i l) ∙ p))
    (every_below_mono n g f (λ i l p. h i l ∙ p))

pub every_below_add : (a b : ℕ) (f : ℕ → Bool) → every_below (a + b) f ≡ (every_below a f
    && every_below b (λ i. f (a + i)))
unfolding every_below
every_below_add a zero f = rw (add-zero, and-true)
every_below_add a (suc b) f =
    rw (add-suc, every_below_add a b f) (and_left_comm (f (a + b)) (every_below a f) (every_below b (λ i. f (a + i))))

-- every number passes where none fails
pub every_below_not : (n : ℕ) (f : ℕ → Bool) → every_below n f ≡ not (some_below n (λ i. not (f i)))
every_below_not n f =
    same_truth (every_below n f) (not (some_below n (λ i. not (f i))))
    (λ e. not_passes (some_below n (λ i. not (f i))) (none_below_intro n (λ i. not (f i))
    (λ i l. ap not (every_below_elim n f e l))))
    (λ e. every_below_intro n f (λ i l.
    not-false (f i) (none_below_elim n (λ i. not (f i)) (not_fails (some_below n (λ i. not (f i))) e) l)))
