-- Arrays filled from the front: past the entries that say something every place has 0.
use Rattle.std.specs.Prelude.{ℕ, zero, suc, ◌+◌, ◌≤◌, ◌≡◌, refl, List, get_or, set, replicate}
use Rattle.std.proofs.Common.{le_trans, arith, ◌∙◌, get_or-set_other}

-- from place n on there are only zeros
pub record BlankFrom (n : ℕ) (l : List ℕ) : Type 0 where
  pub blank : (i : ℕ) → n ≤ i → get_or l i 0 ≡ 0

pub zeros_blank : (n m : ℕ) → BlankFrom n (replicate m 0)
zeros_blank n m = record { blank = λ i l. zeros m i }
  where
    zeros : (m i : ℕ) → ◌≡◌ {A = ℕ} (get_or (replicate m 0) i 0) 0
    zeros zero i = refl
    zeros (suc m) zero = refl
    zeros (suc m) (suc i) = zeros m i

-- one entry more
pub set_blank : {n : ℕ} {l : List ℕ} (x : ℕ) → BlankFrom n l → BlankFrom (n + 1) (set l n x)
set_blank {n} {l} x so_far =
    record { blank = λ i k. get_or-set_other l n i x 0 (λ e. omega arith) ∙ so_far.blank i (omega arith) }

-- from a later place on
pub later_blank : {m n : ℕ} {l : List ℕ} → m ≤ n → BlankFrom m l → BlankFrom n l
later_blank k so_far = record { blank = λ i j. so_far.blank i (le_trans k j) }
