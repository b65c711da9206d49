-- What a grouping by any test is: as long as asked, grown and valid. The class that a number takes is one in use or
-- the next one, and either its members all go together with the number or there are none. Assumes nothing.
use Rattle.std.specs.Prelude.{ℕ, zero, suc, ◌≤◌, ◌≡◌, refl, Bool, List, length}
use Rattle.std.proofs.Common.{ap, ⊎_elim, le_refl, le_of_lt, arith}
use Rattle.std.proofs.Math.Bool.{So}
use Rattle.std.proofs.Math.Option.{get_or}
use Rattle.spec.specs.Vocabulary.{lowest_below}
use Rattle.spec.specs.Cover.{used, joins, grouping}
use Rattle.bits.specs.Laws.Lowest.{lowest_below_cases, lowest_below_intro, lowest_below_none_intro}
use Rattle.lists.specs.Classing.{Valid, Grown}
use Rattle.lists.specs.PlacementLaws.{class_below_used, joins_intro}

-- ---- one more number

-- the class that number d gets: the lowest that takes it, else a new one
abbrev pub class_taken : (ℕ → ℕ → Bool) → ℕ → List ℕ → ℕ
class_taken together d earlier = get_or (lowest_below (used earlier) (joins together d earlier)) (used earlier)

-- a new class takes any number
pub new_class_joins : (together : ℕ → ℕ → Bool) (d : ℕ) (earlier : List ℕ)
    → So (joins together d earlier (used earlier))
new_class_joins together d earlier =
    joins_intro together d earlier (used earlier) (λ i l e. absurd (omega (arith, class_below_used earlier l, e)))

class_taken_le : (together : ℕ → ℕ → Bool) (d : ℕ) (earlier : List ℕ) → class_taken together d earlier ≤ used earlier
class_taken_le together d earlier =
    ⊎_elim
    (λ w. rw (lowest_below_intro (used earlier) (joins together d earlier) w.1) (le_of_lt w.1.within))
    (λ h. rw (lowest_below_none_intro (used earlier) (joins together d earlier) h) (le_refl (used earlier)))
    (lowest_below_cases (used earlier) (joins together d earlier))

class_taken_joins : (together : ℕ → ℕ → Bool) (d : ℕ) (earlier : List ℕ)
    → So (joins together d earlier (class_taken together d earlier))
class_taken_joins together d earlier =
    ⊎_elim
    (λ w. rw (lowest_below_intro (used earlier) (joins together d earlier) w.1) w.1.holds)
    (λ h. rw (lowest_below_none_intro (used earlier) (joins together d earlier) h) (new_class_joins together d earlier))
    (lowest_below_cases (used earlier) (joins together d earlier))

-- ---- a grouping by any test

pub grouping_length : (together : ℕ → ℕ → Bool) (n : ℕ) → length (grouping together n) ≡ n
grouping_length together zero = refl
grouping_length together (suc n) = ap suc (grouping_length together n)

pub grouping_grown : (together : ℕ → ℕ → Bool) (n : ℕ) → Grown (grouping together n)
grouping_grown together zero = tt
grouping_grown together (suc n) = (class_taken_le together n (grouping together n), grouping_grown together n)

pub grouping_valid : (together : ℕ → ℕ → Bool) (n : ℕ) → Valid together (grouping together n)
grouping_valid together zero = tt
grouping_valid together (suc n) = (
  rw (grouping_length together n) (class_taken_joins together n (grouping together n)),
  grouping_valid together n,
)
