-- The length of parts one after the other: what each has by itself, and what each has besides. Assumes nothing.
use Rattle.std.specs.Prelude.{ℕ, zero, suc, ◌+◌, ◌*◌, ◌<◌, ◌≡◌, length}
use Rattle.std.proofs.Common.{suc-mul, arith, ap, length-append}
use Rattle.spec.specs.Text.{Bytes}
use Rattle.bits.specs.Counting.{sum_below}
use Rattle.lists.specs.Listed.{listed, listed_suc}

pub listed_sum : (n each : ℕ) (part : ℕ → Bytes) (own : ℕ → ℕ)
    → ((i : ℕ) → i < n → length (part i) ≡ own i + each)
    → length (listed n part) ≡ sum_below n own + n * each
unfolding sum_below
listed_sum zero each part own h = omega arith
listed_sum (suc n) each part own h =
    omega (
      arith,
      suc-mul n each,
      ap length (listed_suc n part),
      length-append (listed n part) (part n),
      h n (omega arith),
      listed_sum n each part own (λ i l. h i (omega arith)),
    )
