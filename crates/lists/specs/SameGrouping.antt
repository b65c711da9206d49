-- Tests that agree on the numbers asked for give one grouping. A number is only ever tested with earlier ones, so it
-- is enough that the tests agree there. Assumes nothing.
use Rattle.std.specs.Prelude.{ℕ, zero, suc, ◌<◌, ◌≡◌, refl, Bool, List, [], ◌∷◌, length}
use Rattle.std.proofs.Math.Nat.{le_step}
use Rattle.std.proofs.Common.{lt-suc_self}
use Rattle.spec.specs.Cover.{used, joins, grouping}
use Rattle.bits.specs.Laws.Lowest.{lowest_below_ext}
use Rattle.lists.specs.GroupingLaws.{grouping_length}

pub joins_ext : (together also : ℕ → ℕ → Bool) (d : ℕ) (earlier : List ℕ) (c : ℕ)
    → ((i : ℕ) → i < length earlier → together d i ≡ also d i) → joins together d earlier c ≡ joins also d earlier c
joins_ext together also d [] c h = refl
joins_ext together also d (a ∷ earlier) c h =
    rw (h (length earlier) (lt-suc_self (length earlier)), joins_ext together also d earlier c (λ i l. h i (le_step l)))

pub grouping_ext : (together also : ℕ → ℕ → Bool) (n : ℕ) → ((i j : ℕ) → j < i → i < n → together i j ≡ also i j)
    → grouping together n ≡ grouping also n
grouping_ext together also zero h = refl
grouping_ext together also (suc n) h =
    rw (
      grouping_ext together also n (λ i j k l. h i j k (le_step l)),
      lowest_below_ext (used (grouping also n)) (joins together n (grouping also n)) (joins also n (grouping also n))
          (λ c l.
          joins_ext together also n (grouping also n) c (λ i k. h n i (rw (grouping_length also n) at k)
          (lt-suc_self n))),
    )
