-- The kernel's grants stand in grant order and are held: a removal only takes a grant out of the sheet's list.
use Rattle.std.specs.Prelude.{ℕ, zero, suc, ◌≤◌, ◌<◌, Bool, true, false, not, cond, List, [], ◌∷◌, eqb, length}
use Rattle.std.proofs.Common.{le_refl, le_of_lt, ⊎_elim}
use Rattle.std.proofs.Math.Option.{Option, none, some}
use Rattle.spec.specs.Vocabulary.{empty}
use Rattle.spec.specs.Sheet.{Sheet, Grant, same_grant, grants}
use Rattle.spec.specs.Fit.{partners}
use Rattle.spec.specs.Reduction.{Reduction, dominated, is_single, tied_if, carry_out, visit, visits, sweep, sweeps}
use Rattle.spec.specs.Reduction.{unreduced, reduction, kernel}
use Rattle.spec.specs.Cover.{grant_at}
use Rattle.lists.specs.Ordered.{Ordered, ordered_filter, ordered_places}
use Rattle.cells.specs.Laws.Grant.{grant_held}
use Rattle.cells.specs.Laws.GrantOrder.{Before, grants_ordered}
use Rattle.fit.specs.Laws.Fit.{Held}
use Rattle.reduction.specs.Laws.RemovedGranted.{kernel_granted}
use Rattle.cells.specs.Laws.Number.{grant_at_member}

module _ (sheet : Sheet) where
  visit_ordered : (it : Grant) (r : Reduction) → Ordered Before r.remaining
      → Ordered Before (visit sheet it r).remaining
  visit_ordered it r o = judged (empty (partners sheet r.remaining it)) (dominated sheet r.remaining it)
    where
      judged : (partnerless : Bool) (found : Option Grant)
          → Ordered Before (carry_out (cond partnerless is_single (tied_if found)) it r).remaining
      judged true found = ordered_filter Before (λ h. not (same_grant it h)) r.remaining o
      judged false none = o
      judged false (some g) = ordered_filter Before (λ h. not (same_grant it h)) r.remaining o

  visits_ordered : (visited : List Grant) (r : Reduction) → Ordered Before r.remaining
      → Ordered Before (visits sheet visited r).remaining
  visits_ordered [] r o = o
  visits_ordered (it ∷ later) r o = visits_ordered later (visit sheet it r) (visit_ordered it r o)

  sweeps_ordered : (fuel : ℕ) (r : Reduction) → Ordered Before r.remaining
      → Ordered Before (sweeps sheet fuel r).remaining
  sweeps_ordered zero r o = o
  sweeps_ordered (suc more) r o =
      let after = visits_ordered r.remaining r o in
      either (eqb (length (sweep sheet r).remaining) (length r.remaining)) after
      (sweeps_ordered more (sweep sheet r) after)
    where
      either : (settled : Bool) → Ordered Before (sweep sheet r).remaining
          → Ordered Before (sweeps sheet more (sweep sheet r)).remaining
          → Ordered Before (cond settled (sweep sheet r) (sweeps sheet more (sweep sheet r))).remaining
      either true after later = after
      either false after later = later

  -- the kernel's grants are in order
  pub kernel_ordered : Ordered Before (kernel sheet)
  unfolding kernel reduction
  kernel_ordered = sweeps_ordered (suc (length (grants sheet))) (unreduced sheet) (grants_ordered sheet)

  -- a later grant has no lower user
  pub kernel_users_rise : (i j : ℕ) → i < j → j < length (kernel sheet) → (grant_at (kernel sheet) i).user ≤ (grant_at
      (kernel sheet) j).user
  kernel_users_rise i j k l =
      ⊎_elim (λ lower. le_of_lt lower) (λ same. rw same.0 (le_refl (grant_at (kernel sheet) j).user))
      (ordered_places Before (kernel sheet) kernel_ordered i j (record { user = 0; permission = 0 }) k l)

  pub kernel_is_held : (i : ℕ) → i < length (kernel sheet) → Held sheet (grant_at (kernel sheet) i)
  kernel_is_held i l = grant_held sheet (kernel_granted sheet (grant_at (kernel sheet) i)
      (grant_at_member (kernel sheet) i l))
