-- What the first best of the three groupings is: a placement of the whole list, with classes numbered by first
-- appearance and only fitting grants in a class. Grants of one permission fit, and so do grants of one user, so all
-- three groupings are such placements. None of the three has fewer classes than the best, so it has no more than
-- there are permissions, and no more than there are users.
use Rattle.std.specs.Prelude.{ℕ, ◌≤◌, ◌<◌, ◌≡◌, Bool, leb, length}
use Rattle.std.proofs.Common.{le_refl, le_trans, le_of_lt, lt_trans, ⊎_elim, eqb-true, leb-true, leb-false}
use Rattle.std.proofs.Math.Bool.{So}
use mathlib.Core.List.{List, Memᴰ}
use Rattle.spec.specs.Sheet.{Sheet, Grant}
use Rattle.spec.specs.Cover.{used, grouping, grant_at, fit_at, permission_at, user_at, fewer, best_grouping}
use Rattle.bits.specs.Truth.{passes_or_fails}
use Rattle.lists.specs.Classing.{Valid, Grown}
use Rattle.lists.specs.PlacementLaws.{valid_mono}
use Rattle.lists.specs.GroupingLaws.{grouping_length, grouping_grown, grouping_valid}
use Rattle.lists.specs.KeyLaws.{grouping_used_le}
use Rattle.fit.specs.Laws.Fit.{Held, one_permission_fits, one_user_fits}
use Rattle.cells.specs.Laws.Number.{grant_at_member}

-- ---- the one with fewest classes of two

pub fewer_is_one : (P : List ℕ → Type 0) (earlier later : List ℕ) → P earlier → P later → P (fewer earlier later)
fewer_is_one P earlier later p q =
    ⊎_elim (λ e. rw e p) (λ e. rw e q) (passes_or_fails (leb (used earlier) (used later)))

pub fewer_le_earlier : (earlier later : List ℕ) → used (fewer earlier later) ≤ used earlier
fewer_le_earlier earlier later =
    ⊎_elim (λ e. rw e (le_refl (used earlier))) (λ e. rw e (le_of_lt (leb-false (used earlier) (used later) e)))
    (passes_or_fails (leb (used earlier) (used later)))

pub fewer_le_later : (earlier later : List ℕ) → used (fewer earlier later) ≤ used later
fewer_le_later earlier later =
    ⊎_elim (λ e. rw e (leb-true (used earlier) (used later) e)) (λ e. rw e (le_refl (used later)))
    (passes_or_fails (leb (used earlier) (used later)))

-- the three groupings of a list of grants
abbrev pub by_fit : Sheet → List Grant → List ℕ
by_fit sheet l = grouping (fit_at sheet l) (length l)

abbrev pub by_permission : List Grant → List ℕ
by_permission l = grouping (permission_at l) (length l)

abbrev pub by_user : List Grant → List ℕ
by_user l = grouping (user_at l) (length l)

module _ (sheet : Sheet) (l : List Grant) where
  -- ---- the first best of three

  -- what holds of the three groupings holds of the first best
  pub best_is_one : (P : List ℕ → Type 0) → P (by_fit sheet l) → P (by_permission l) → P (by_user l)
      → P (best_grouping sheet l)
  best_is_one P fit permission user =
      fewer_is_one P (fewer (by_fit sheet l) (by_permission l)) (by_user l)
      (fewer_is_one P (by_fit sheet l) (by_permission l) fit permission) user

  pub best_grouping_length : length (best_grouping sheet l) ≡ length l
  best_grouping_length =
      best_is_one (λ placed. length placed ≡ length l) (grouping_length (fit_at sheet l) (length l))
      (grouping_length (permission_at l) (length l)) (grouping_length (user_at l) (length l))

  pub best_grouping_grown : Grown (best_grouping sheet l)
  best_grouping_grown =
      best_is_one Grown (grouping_grown (fit_at sheet l) (length l)) (grouping_grown (permission_at l) (length l))
      (grouping_grown (user_at l) (length l))

  -- a grouping of held grants in which only fitting grants go together has fitting classes
  grouping_fits : (together : ℕ → ℕ → Bool) → ((g : Grant) → Memᴰ g l → Held sheet g)
      → ((i j : ℕ) → Held sheet (grant_at l i) → Held sheet (grant_at l j) → So (together i j)
      → So (fit_at sheet l i j))
      → Valid (fit_at sheet l) (grouping together (length l))
  grouping_fits together held fitting =
      valid_mono together (fit_at sheet l) (grouping together (length l))
      (λ i j k m e. let inside = rw (grouping_length together (length l)) at m in fitting i j (granted i inside)
      (granted j (lt_trans k inside)) e)
      (grouping_valid together (length l))
    where
      granted : (i : ℕ) → i < length l → Held sheet (grant_at l i)
      granted i k = held (grant_at l i) (grant_at_member l i k)

  -- held grants of one class fit
  pub best_grouping_valid : ((g : Grant) → Memᴰ g l → Held sheet g) → Valid (fit_at sheet l)
      (best_grouping sheet l)
  best_grouping_valid held =
      best_is_one (Valid (fit_at sheet l)) (grouping_valid (fit_at sheet l) (length l))
      (grouping_fits (permission_at l) held (λ i j p q e.
      one_permission_fits sheet (grant_at l i) (grant_at l j) p q (eqb-true (grant_at l i).permission
      (grant_at l j).permission e)))
      (grouping_fits (user_at l) held (λ i j p q e.
      one_user_fits sheet (grant_at l i) (grant_at l j) p q (eqb-true (grant_at l i).user (grant_at l j).user e)))

  -- ---- how many classes it has: no more than any of the three

  pub best_le_by_fit : used (best_grouping sheet l) ≤ used (by_fit sheet l)
  best_le_by_fit =
      le_trans (fewer_le_earlier (fewer (by_fit sheet l) (by_permission l)) (by_user l))
      (fewer_le_earlier (by_fit sheet l) (by_permission l))

  pub best_le_by_permission : used (best_grouping sheet l) ≤ used (by_permission l)
  best_le_by_permission =
      le_trans (fewer_le_earlier (fewer (by_fit sheet l) (by_permission l)) (by_user l))
      (fewer_le_later (by_fit sheet l) (by_permission l))

  pub best_le_by_user : used (best_grouping sheet l) ≤ used (by_user l)
  best_le_by_user = fewer_le_later (fewer (by_fit sheet l) (by_permission l)) (by_user l)

  -- no more classes than permissions, and no more than users
  pub best_le_permissions : (m : ℕ) → ((g : Grant) → Memᴰ g l → g.permission < m) → used (best_grouping sheet l)
      ≤ m
  best_le_permissions m below =
      le_trans best_le_by_permission
      (grouping_used_le (λ i. (grant_at l i).permission) (length l) m
      (λ i k. below (grant_at l i) (grant_at_member l i k)))

  pub best_le_users : (n : ℕ) → ((g : Grant) → Memᴰ g l → g.user < n) → used (best_grouping sheet l) ≤ n
  best_le_users n below =
      le_trans best_le_by_user
      (grouping_used_le (λ i. (grant_at l i).user) (length l) n (λ i k. below (grant_at l i) (grant_at_member l i k)))
