-- A count below m * k, taken as m blocks of k: the number i * k + j is the place j of the block i. So rows of words
-- are counted word by word. It is an induction on the blocks, by the law for a sum of bounds.
use Rattle.std.specs.Prelude.{◌≡◌, Bool, ℕ, zero, suc, ◌+◌, ◌*◌}
use Rattle.std.proofs.Common.{zero-mul, suc-mul}
use Rattle.bits.specs.Counting.{count_below, sum_below}
use Rattle.bits.specs.Laws.Count.{count_below_add}

pub count_below_blocks : (m k : ℕ) (f : ℕ → Bool) → count_below (m * k) f ≡ sum_below m
    (λ i. count_below k (λ j. f (i * k + j)))
unfolding sum_below count_below
count_below_blocks zero k f = rw (zero-mul k)
count_below_blocks (suc m) k f = rw (suc-mul m k, count_below_add (m * k) k f, count_below_blocks m k f)
