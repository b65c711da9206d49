-- "First cover": placements of grants into classes, three groupings of the kernel in grant order, and the first best.
use Rattle.std.specs.Prelude.{◌&&◌, ◌∷◌}
use Rattle.spec.specs.Vocabulary.{ℕ, zero, suc, max, Bool, true, cond, Option·getD, List, [], eqb}
use Rattle.spec.specs.Vocabulary.{leb, length, get_or, lowest_below, implies}
use Rattle.spec.specs.Sheet.{Sheet, Grant}
use Rattle.spec.specs.Fit.{fits}
use Rattle.spec.specs.Reduction.{kernel}

-- A placement (of grants into classes, cliques of the edge dual): the class numbers of the first grants of a list, the
-- latest placed first.

-- the number of classes in a placement: one more than the greatest class number. Classes are numbered from 0 by first
-- appearance, so no number below the greatest is left out, and this is how many there are: the laws `grouping_grown`
-- (lists, GroupingLaws) and `SoundState` (search) say so
abbrev pub used : List ℕ → ℕ
used [] = 0
used (c ∷ earlier) = max (suc c) (used earlier)

-- number d goes together with all members of class c
abbrev pub joins : (ℕ → ℕ → Bool) → ℕ → List ℕ → ℕ → Bool
joins together d [] c = true
joins together d (a ∷ earlier) c = implies (eqb a c) (together d (length earlier)) && joins together d earlier c

-- the first n numbers in order, each into the lowest class with whose members it all goes together, else a new class:
-- classes are numbered from 0 by first appearance
abbrev pub grouping : (ℕ → ℕ → Bool) → ℕ → List ℕ
grouping together zero = []
grouping together (suc n) =
    let earlier : List ℕ = grouping together n in
    Option·getD (lowest_below (used earlier) (joins together n earlier)) (used earlier) ∷ earlier

-- the grant of a number in a list of grants; asked only of numbers below its length, so the zeros are not reached
abbrev pub grant_at : List Grant → ℕ → Grant
grant_at grants i = get_or grants i (record { user = 0; permission = 0 })

-- two grants of a list, by number: they fit
abbrev pub fit_at : Sheet → List Grant → ℕ → ℕ → Bool
fit_at sheet grants i j = fits sheet (grant_at grants i) (grant_at grants j)

-- they have one permission
abbrev pub permission_at : List Grant → ℕ → ℕ → Bool
permission_at grants i j = eqb (grant_at grants i).permission (grant_at grants j).permission

-- they have one user
abbrev pub user_at : List Grant → ℕ → ℕ → Bool
user_at grants i j = eqb (grant_at grants i).user (grant_at grants j).user

-- the placement with fewest classes, the earlier named on a tie
abbrev pub fewer : List ℕ → List ℕ → List ℕ
fewer earlier later = cond (leb (used earlier) (used later)) earlier later

-- the first best of the three groupings of a list of grants: by fit, by permission, by user
abbrev pub best_grouping : Sheet → List Grant → List ℕ
best_grouping sheet grants =
    fewer (fewer (grouping (fit_at sheet grants) (length grants)) (grouping (permission_at grants) (length grants)))
    (grouping (user_at grants) (length grants))

-- the first best placement of the kernel
unfoldable pub first_best : Sheet → List ℕ
unfolding kernel
first_best sheet = best_grouping sheet (kernel sheet)
