-- A grouping in the making: the classes of the first numbers stand in an array, with their count. Each next number
-- takes the class that the grouping gives it, so the array holds the grouping of one number more. There are never
-- more classes than numbers, which bounds each class.
use Rattle.std.specs.Prelude.{ℕ, suc, ◌≤◌, ◌<◌, max, ◌≡◌, refl, Bool, List, [], length, set, Option, Some, None}
use Rattle.spec.specs.Cover.{used, grouping}
use Rattle.lists.specs.GrownLaws.{grown_used_le}
use Rattle.lists.specs.GroupingLaws.{class_taken, grouping_length, grouping_grown}
use Rattle.lists.specs.LatestFirst.{latest_first, latest_first_next}
use Rattle.cover.specs.declared.cover.Placement.{Placement}

-- a placement of d numbers as their classes in an array, and the count of the classes
pub record Placed (placement classes : List ℕ) (d count : ℕ) : Type 0 where
  pub so_far : latest_first classes d ≡ placement
  pub in_use : count ≡ used placement

-- the class that number d takes in a grouping
abbrev pub next_class : (ℕ → ℕ → Bool) → ℕ → ℕ
next_class together d = class_taken together d (grouping together d)

-- at first there is none
pub none_placed : (classes : List ℕ) → Placed [] classes 0 0
none_placed classes = record { so_far = refl; in_use = refl }

module _ (together : ℕ → ℕ → Bool) (classes : List ℕ) (d count : ℕ) (p : Placed (grouping together d) classes d count)
  where
    -- no more classes than numbers
    pub few_classes : count ≤ d
    few_classes =
        rw p.in_use (rw (grouping_length together d) at (grown_used_le (grouping together d)
        (grouping_grown together d)))

    -- the class taken is in use or the next one
    pub taken_le : {c : ℕ} → c ≡ next_class together d → c ≤ count
    taken_le e = rw (e, p.in_use) (grouping_grown together (suc d)).0

    -- one number more
    pub one_placed : {c : ℕ} → c ≡ next_class together d → d < length classes
        → Placed (grouping together (suc d)) (set classes d c) (suc d) (max (suc c) count)
    one_placed {c} e l =
        record { so_far = rw (latest_first_next classes d c l, p.so_far, e); in_use = rw (p.in_use, e) }

-- a placement, or none since it has more classes than most
abbrev pub PlacedOrMore : List ℕ → Option Placement → ℕ → ℕ → Type 0
PlacedOrMore placement None d most = most < used placement
PlacedOrMore placement (Some p) d most = Placed placement p.classes d p.used
