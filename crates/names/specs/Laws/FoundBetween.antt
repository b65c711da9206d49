-- Looking for one of names of which no two are equal, in two parts, whichever comes first. Assumes nothing.
use Rattle.std.specs.Prelude.{ℕ, suc, ◌≤◌, ◌<◌, ◌≡◌, false, List, [], get_or, Option, Some, None}
use Rattle.std.proofs.Common.{arith, sym, ap, ⊎_elim}
use Rattle.std.proofs.Math.Bool.{So}
use Rattle.std.proofs.Math.Option.{some, none}
use Rattle.spec.specs.Text.{Bytes, same_name}
use Rattle.bits.specs.Truth.{not_both, fails_unless}
use Rattle.bits.specs.Laws.Below.{last_or_below, below_or_from}
use Rattle.text.specs.Laws.Lowered.{same_name_sym, same_name_trans}
use Rattle.names.specs.NamesAt.{name_there, names_at, Apart, name_number, found}
use Rattle.names.specs.FoundBetween.{StandsAt, StandsNowhere, FoundBetween}
use Rattle.names.specs.Laws.NamesAt.{name_of, found_at, found_nothing}

-- two names that equal a third are equal
both_equal : (name a b : Bytes) → So (same_name name a) → So (same_name name b) → So (same_name a b)
both_equal name a b p q = same_name_trans a name b (same_name_sym name a p) q

module _ (text : Bytes) (places : List ℕ) (name : Bytes) where
  pub nowhere_yet : (low : ℕ) → StandsNowhere text places name low low
  nowhere_yet low = record { unlike = λ i h k. absurd (omega arith) }

  pub nowhere_more : (low n : ℕ) → StandsNowhere text places name low n → same_name name (name_there text places n) ≡
      false
      → StandsNowhere text places name low (suc n)
  nowhere_more low n before other =
      record { unlike = λ i h k. ⊎_elim (λ e. rw e other) (λ l. before.unlike i h l) (last_or_below k) }

  -- past the end there is nothing to look at
  pub nowhere_past : (low high n : ℕ) → StandsNowhere text places name low n → high ≤ n → StandsNowhere text places
      name low high
  nowhere_past low high n before h = record { unlike = λ i l k. before.unlike i l (omega arith) }

  module _ (count : ℕ) (apart : Apart text places count) where
    -- the one number of a name is the lowest
    pub stands_number : (low high i : ℕ) → high ≤ count → StandsAt text places name low high i
        → name_number (names_at text places count) name ≡ some i
    stands_number low high i h stands =
        let below : i < count = (let b = stands.below in omega arith) in
        found_at text places count name i below (λ j l.
        fails_unless (same_name name (get_or (names_at text places count) j [])) (λ p.
        not_both
        (both_equal name (name_there text places j) (name_there text places i)
        (rw (name_of text places count j (omega arith)) at p) stands.equal)
        (apart j i l below)))
        stands.equal

  -- a name that stands in neither part has no number
  pub nowhere_number : (count first end : ℕ) → StandsNowhere text places name first count → StandsNowhere text places
      name 0 end
      → ((i : ℕ) → i < first → i < count → i < end) → name_number (names_at text places count) name ≡ none
  nowhere_number count first end late early all =
      found_nothing text places count name (λ j l.
      rw (name_of text places count j l)
      (⊎_elim (λ h. early.unlike j (omega arith) (all j h l)) (λ h. late.unlike j h l) (below_or_from j first)))

-- what looking in the earlier part finds, where the name does not stand in the later one
pub found_early : (text : Bytes) (places : List ℕ) (name : Bytes) (count : ℕ) → Apart text places count
    → (first end : ℕ) → end ≤ count
    → ((i : ℕ) → i < first → i < count → i < end) → StandsNowhere text places name first count → (r : Option ℕ)
    → FoundBetween text places name 0 end r → r ≡ found (name_number (names_at text places count) name)
found_early text places name count apart first end h all late (Some i) early =
    sym (ap found (stands_number text places name count apart 0 end i h early))
found_early text places name count apart first end h all late None early =
    sym (ap found (nowhere_number text places name count first end late early all))
