-- One turn of a loop that counts up: each definition's clause at n + 1, as the code writes it, where the clause
-- itself has `suc n`.
use Rattle.std.specs.Prelude.{◌≡◌, Bool, ◌&&◌, ◌||◌, ℕ, ◌+◌}
use Rattle.std.proofs.Common.{add-one}
use Rattle.spec.specs.Vocabulary.{every_below}
use Rattle.bits.specs.Counting.{some_below, sum_below}

pub sum_below_step : (n : ℕ) (g : ℕ → ℕ) → sum_below (n + 1) g ≡ sum_below n g + g n
unfolding sum_below
sum_below_step n g = rw (add-one n)

pub some_below_step : (n : ℕ) (f : ℕ → Bool) → some_below (n + 1) f ≡ (f n || some_below n f)
unfolding some_below
some_below_step n f = rw (add-one n)

pub every_below_step : (n : ℕ) (f : ℕ → Bool) → every_below (n + 1) f ≡ (f n && every_below n f)
unfolding every_below
every_below_step n f = rw (add-one n)
