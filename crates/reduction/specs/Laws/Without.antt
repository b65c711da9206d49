-- What stands in a list of grants without one of them: the others, and only they.
use Rattle.std.specs.Prelude.{◌≡◌, ◌⊎◌, ◌≢◌, not, false}
use Rattle.std.proofs.Common.{sym, inl, inr, ⊎_elim}
use mathlib.Core.List.{List, Memᴰ}
use Rattle.spec.specs.Sheet.{Grant, same_grant}
use Rattle.spec.specs.Fit.{without}
use Rattle.bits.specs.Truth.{passes_or_fails, not_both, not_passes, not_fails}
use Rattle.lists.specs.TestLaws.{filter_member, filter_kept}
use Rattle.cells.specs.Laws.Grant.{same_grant_equal, equal_same_grant}

pub without_member : (it : Grant) (l : List Grant) {g : Grant} → Memᴰ g (without it l) → Memᴰ g l
without_member it l m = (filter_kept (λ h. not (same_grant it h)) l m).member

pub without_fails : (it : Grant) (l : List Grant) {g : Grant} → Memᴰ g (without it l) → same_grant it g ≡ false
without_fails it l {g} m = not_fails (same_grant it g) (filter_kept (λ h. not (same_grant it h)) l m).passes

pub without_differs : (it : Grant) (l : List Grant) {g : Grant} → Memᴰ g (without it l) → it ≢ g
without_differs it l m e = not_both (equal_same_grant e) (without_fails it l m)

pub without_keeps : (it : Grant) (l : List Grant) {g : Grant} → Memᴰ g l → same_grant it g ≡ false
    → Memᴰ g (without it l)
without_keeps it l {g} m f = filter_member (λ h. not (same_grant it h)) l m (not_passes (same_grant it g) f)

-- a member is the one left out, or stands in the rest
pub without_cases : (it : Grant) (l : List Grant) {g : Grant} → Memᴰ g l → (g ≡ it) ⊎ Memᴰ g (without it l)
without_cases it l {g} m =
    ⊎_elim (λ e. inl (sym (same_grant_equal it g e))) (λ f. inr (without_keeps it l m f))
    (passes_or_fails (same_grant it g))
