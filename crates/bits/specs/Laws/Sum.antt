-- Sums over the numbers below a bound. As with a count, each law is an induction on the bound that compares what the
-- last number adds.
use Rattle.std.specs.Prelude.{◌≡◌, refl, ℕ, zero, suc, ◌+◌, ◌*◌, ◌≤◌, ◌<◌}
use Rattle.std.proofs.Common.{add-zero, add-suc, suc-mul, zero-mul, le_refl, arith}
use Rattle.std.proofs.Math.Nat.{le_step, le_dest}
use Rattle.bits.specs.Counting.{sum_below}

pub sum_below_ext : (n : ℕ) (g h : ℕ → ℕ) → ((i : ℕ) → i < n → g i ≡ h i) → sum_below n g ≡ sum_below n h
unfolding sum_below
sum_below_ext zero g h e = refl
sum_below_ext (suc n) g h e = rw (sum_below_ext n g h (λ i l. e i (le_step l)), e n (le_refl (suc n)))

pub sum_below_mono : (n : ℕ) (g h : ℕ → ℕ) → ((i : ℕ) → i < n → g i ≤ h i) → sum_below n g ≤ sum_below n h
unfolding sum_below
sum_below_mono zero g h e = omega arith
sum_below_mono (suc n) g h e = omega (arith, sum_below_mono n g h (λ i l. e i (le_step l)), e n (le_refl (suc n)))

-- the numbers below a + b are those below a, and a and more
pub sum_below_add : (a b : ℕ) (g : ℕ → ℕ) → sum_below (a + b) g ≡ sum_below a g + sum_below b (λ i. g (a + i))
unfolding sum_below
sum_below_add a zero g = rw (add-zero a) (omega arith)
sum_below_add a (suc b) g = rw (add-suc a b, sum_below_add a b g) (omega arith)

pub sum_below_first : (n : ℕ) (g : ℕ → ℕ) → sum_below (suc n) g ≡ g 0 + sum_below n (λ i. g (suc i))
unfolding sum_below
sum_below_first zero g = omega arith
sum_below_first (suc n) g = omega (arith, sum_below_first n g)

pub sum_below_more : (m n : ℕ) (g : ℕ → ℕ) → m ≤ n → sum_below m g ≤ sum_below n g
sum_below_more m n g h = let k = le_dest h in rw (← k.1, sum_below_add m k.0 g) (omega arith)

pub sum_below_none : (n : ℕ) (g : ℕ → ℕ) → ((i : ℕ) → i < n → g i ≡ 0) → sum_below n g ≡ 0
unfolding sum_below
sum_below_none zero g e = refl
sum_below_none (suc n) g e = rw (sum_below_none n g (λ i l. e i (le_step l)), e n (le_refl (suc n)))

pub sum_below_const : (n c : ℕ) → sum_below n (λ i. c) ≡ n * c
unfolding sum_below
sum_below_const zero c = rw (zero-mul c)
sum_below_const (suc n) c = rw (sum_below_const n c, suc-mul n c)

-- what each adds at most
pub sum_below_le : (n c : ℕ) (g : ℕ → ℕ) → ((i : ℕ) → i < n → g i ≤ c) → sum_below n g ≤ n * c
sum_below_le n c g h = rw (sum_below_const n c) at (sum_below_mono n g (λ i. c) h)
