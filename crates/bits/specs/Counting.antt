-- Counting below a bound, for any test on the numbers, and what a search below a bound comes to. Each count is a
-- recursion on the bound that looks at the last number below it, so a loop that counts up meets one clause a turn.
-- Assumes nothing.
use Rattle.std.specs.Prelude.{◌≡◌, Bool, true, false, ◌||◌, ℕ, zero, suc, ◌+◌, ◌≤◌, ◌<◌}
use Rattle.std.proofs.Math.Bool.{So}

-- 1 where the test passes, and 0 where it fails
abbrev pub one_if : Bool → ℕ
one_if true = 1
one_if false = 0

-- some number below n passes f
unfoldable pub some_below : ℕ → (ℕ → Bool) → Bool
some_below zero f = false
some_below (suc n) f =
    let earlier : Bool = some_below n f in
    f n || earlier

-- how many numbers below n pass f
unfoldable pub count_below : ℕ → (ℕ → Bool) → ℕ
count_below zero f = 0
count_below (suc n) f = count_below n f + one_if (f n)

-- the sum of g over the numbers below n
unfoldable pub sum_below : ℕ → (ℕ → ℕ) → ℕ
sum_below zero g = 0
sum_below (suc n) g = sum_below n g + g n

-- a number below n that passes f
pub record Found (n : ℕ) (f : ℕ → Bool) : Type 0 where
  pub place : ℕ
  pub within : place < n
  pub holds : So (f place)

-- i is the lowest number below n that passes f
pub record Lowest (n : ℕ) (f : ℕ → Bool) (i : ℕ) : Type 0 where
  pub within : i < n
  pub holds : So (f i)
  pub first : (j : ℕ) → j < i → f j ≡ false

-- no number from one place up to another passes
abbrev pub Skipped : (ℕ → Bool) → ℕ → ℕ → Type 0
Skipped test from next = (n : ℕ) → from ≤ n → n < next → test n ≡ false

-- the lowest number from a place on that passes, else the end
pub record NextFrom (test : ℕ → Bool) (from end next : ℕ) : Type 0 where
  pub not_before : from ≤ next
  pub not_past : next ≤ end
  pub skipped : Skipped test from next
  pub passes : next < end → So (test next)
