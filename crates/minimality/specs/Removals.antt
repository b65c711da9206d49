-- The states of a reduction, each reached from the whole sheet by removals. A single fits nothing that is left; a
-- tied grant fits all that is left and fits its partner. Every visit of a remaining grant makes such a removal or
-- none, and a sweep visits only grants that still remain at their moment, since no grant stands twice. So what every
-- removal keeps, the whole reduction keeps: an induction on `Reached`.
use Rattle.std.specs.Prelude.{ℕ, zero, suc, ◌≡◌, refl, ◌≢◌, Bool, true, false, ◌&&◌, ◌||◌, not, cond, eqb, length}
use Rattle.std.proofs.Common.{⊎_elim}
use Rattle.std.proofs.Math.Bool.{So}
use Rattle.std.proofs.lemmas.Bool.{false≢true}
use mathlib.Core.List.Memᴰ
use mathlib.Core.List.{List, [], ◌∷◌, Memᴰ}
use Rattle.std.proofs.Math.Option.{Option, none, some}
use Rattle.spec.specs.Vocabulary.{empty}
use Rattle.spec.specs.Sheet.{Sheet, Grant, same_grant, grants}
use Rattle.spec.specs.Fit.{fits, without, partners}
use Rattle.spec.specs.Reduction.{Reduction, dominates, dominated, Verdict, stays, is_single, is_tied, tied_if}
use Rattle.spec.specs.Reduction.{verdict, carry_out, visit, visits, sweep, sweeps, unreduced, reduction}
use Rattle.bits.specs.Truth.{not_both, fails_unless, and_intro, and_left, and_right, or_right, or_cases, implies_elim}
use Rattle.bits.specs.Truth.{not_passes, not_fails}
use Rattle.lists.specs.TestLaws.{Kept, all_elim, filter_member, first_passes}
use Rattle.lists.specs.Ordered.{Ordered, ordered_filter}
use Rattle.lists.specs.Distinct.{Distinct, ordered_distinct}
use Rattle.cells.specs.Laws.Grant.{same_grant_refl, same_grant_equal}
use Rattle.cells.specs.Laws.GrantOrder.{Before, before_differs, grants_ordered}
use Rattle.reduction.specs.Laws.Without.{without_member, without_fails, without_keeps}

-- two grants do not fit
abbrev pub Unfit : Sheet → Grant → Grant → Type 0
Unfit sheet g h = fits sheet g h ≡ false

-- a grant fits nothing of what is left
abbrev pub Alone : Sheet → List Grant → Grant → Type 0
Alone sheet left it = (h : Grant) → Memᴰ h left → Unfit sheet it h

-- a grant fits all of what is left that fits another one, which is left too
pub record Dominating (sheet : Sheet) (left : List Grant) (it g : Grant) : Type 0 where
  pub is_left : Memᴰ g left
  pub fits_all : (h : Grant) → Memᴰ h left → So (fits sheet g h) → So (fits sheet it h)

-- a state that removals lead to from the whole sheet
pub data Reached (sheet : Sheet) : Reduction → Type 0 where
  at_first : Reached sheet (unreduced sheet)
  by_single : {r : Reduction} (it : Grant) → Reached sheet r → Memᴰ it r.remaining
      → Alone sheet (without it r.remaining) it
      → Reached sheet (carry_out is_single it r)
  by_tie : {r : Reduction} (it g : Grant) → Reached sheet r → Memᴰ it r.remaining
      → Dominating sheet (without it r.remaining) it g
      → Reached sheet (carry_out (is_tied g) it r)

-- ---- a visit makes a removal or none

empty_member : (l : List Grant) {g : Grant} → So (empty l) → Memᴰ g l → ⊥
empty_member [] e m = Memᴰ.not-nil m
empty_member (a ∷ rest) e m = false≢true e

-- no other remaining grant fits it
pub partnerless_is_alone : (sheet : Sheet) (remaining : List Grant) (it : Grant)
    → So (empty (partners sheet remaining it))
    → Alone sheet (without it remaining) it
partnerless_is_alone sheet remaining it e h m =
    fails_unless (fits sheet it h) (λ p. empty_member (partners sheet remaining it) e
    (filter_member (λ k. not (same_grant it k) && fits sheet it k) remaining (without_member it remaining m)
    (and_intro (not (same_grant it h)) (fits sheet it h) (not_passes (same_grant it h) (without_fails it remaining m))
    p)))

-- the lowest other remaining grant that it dominates
pub dominated_is_left : (sheet : Sheet) (remaining : List Grant) (it : Grant) {g : Grant} → dominated sheet remaining
    it ≡ some g
    → Dominating sheet (without it remaining) it g
dominated_is_left sheet remaining it {g} e =
    record {
      is_left =
          without_keeps it remaining found.member
          (not_fails (same_grant it g) (and_left (not (same_grant it g)) (dominates sheet remaining it g)
          found.passes));
      fits_all = λ h m p. reaches h m (or_right (same_grant g h) (fits sheet g h) p);
    }
  where
    found : Kept (λ g. not (same_grant it g) && dominates sheet remaining it g) remaining g
    found = first_passes (λ g. not (same_grant it g) && dominates sheet remaining it g) remaining e

    reaches : (h : Grant) → Memᴰ h (without it remaining) → So (same_grant g h || fits sheet g h)
        → So (fits sheet it h)
    reaches h m p =
        ⊎_elim (λ q. absurd (not_both q (without_fails it remaining m))) (λ q. q)
        (or_cases (same_grant it h) (fits sheet it h) (implies_elim (same_grant g h || fits sheet g h)
        (same_grant it h || fits sheet it h)
        (all_elim (λ h. not (same_grant g h || fits sheet g h) || (same_grant it h || fits sheet it h)) remaining
        (and_right (not (same_grant it g)) (dominates sheet remaining it g) found.passes)
        (without_member it remaining m)) p))

pub visit_reaches : (sheet : Sheet) (it : Grant) {r : Reduction} → Reached sheet r → Memᴰ it r.remaining
    → Reached sheet (visit sheet it r)
visit_reaches sheet it {r} reached m =
    judged (empty (partners sheet r.remaining it)) refl (dominated sheet r.remaining it) refl
  where
    judged : (partnerless : Bool) → empty (partners sheet r.remaining it) ≡ partnerless
        → (found : Option Grant) → dominated sheet r.remaining it ≡ found
        → Reached sheet (carry_out (cond partnerless is_single (tied_if found)) it r)
    judged true e found f = by_single it reached m (partnerless_is_alone sheet r.remaining it e)
    judged false e none f = reached
    judged false e (some g) f = by_tie it g reached m (dominated_is_left sheet r.remaining it f)

-- ---- what remains

-- what remains stands in grant order
pub remaining_ordered : {sheet : Sheet} {r : Reduction} → Reached sheet r → Ordered Before r.remaining
remaining_ordered {sheet} at_first = grants_ordered sheet
remaining_ordered (by_single {r} it reached m alone) =
    ordered_filter Before (λ h. not (same_grant it h)) r.remaining (remaining_ordered reached)
remaining_ordered (by_tie {r} it g reached m dominating) =
    ordered_filter Before (λ h. not (same_grant it h)) r.remaining (remaining_ordered reached)

-- no grant remains twice
pub remaining_distinct : {sheet : Sheet} {r : Reduction} → Reached sheet r → Distinct r.remaining
remaining_distinct {sheet} {r} reached =
    ordered_distinct Before r.remaining (λ g m b. not_both (same_grant_refl g) (before_differs g g b))
    (remaining_ordered reached)

-- no grant stands twice
pub grants_distinct : (sheet : Sheet) → Distinct (grants sheet)
grants_distinct sheet = remaining_distinct {sheet = sheet} at_first

-- what remains are grants of the sheet
pub remaining_granted : {sheet : Sheet} {r : Reduction} → Reached sheet r → {g : Grant} → Memᴰ g r.remaining
    → Memᴰ g (grants sheet)
remaining_granted at_first n = n
remaining_granted (by_single {r} it reached m alone) n = remaining_granted reached (without_member it r.remaining n)
remaining_granted (by_tie {r} it g reached m dominating) n =
    remaining_granted reached (without_member it r.remaining n)

-- ---- the whole reduction is reached by removals

-- a visit leaves every other grant
pub carry_out_leaves : (judged : Verdict) (it : Grant) (r : Reduction) {g : Grant} → it ≢ g → Memᴰ g r.remaining
    → Memᴰ g (carry_out judged it r).remaining
carry_out_leaves stays it r other m = m
carry_out_leaves is_single it r {g} other m =
    without_keeps it r.remaining m (fails_unless (same_grant it g) (λ e. other (same_grant_equal it g e)))
carry_out_leaves (is_tied h) it r {g} other m =
    without_keeps it r.remaining m (fails_unless (same_grant it g) (λ e. other (same_grant_equal it g e)))

pub visits_reach : (sheet : Sheet) (visited : List Grant) {r : Reduction} → Distinct visited
    → ((g : Grant) → Memᴰ g visited → Memᴰ g r.remaining) → Reached sheet r
    → Reached sheet (visits sheet visited r)
visits_reach sheet [] distinct remain reached = reached
visits_reach sheet (it ∷ later) {r} distinct remain reached =
    visits_reach sheet later distinct.1
    (λ g m. carry_out_leaves (verdict sheet r.remaining it) it r (distinct.0 g m) (remain g (Memᴰ.tail m)))
    (visit_reaches sheet it reached (remain it (Memᴰ.head refl)))

pub sweep_reaches : (sheet : Sheet) {r : Reduction} → Reached sheet r → Reached sheet (sweep sheet r)
sweep_reaches sheet {r} reached = visits_reach sheet r.remaining (remaining_distinct reached) (λ g m. m) reached

pub sweeps_reach : (sheet : Sheet) (fuel : ℕ) {r : Reduction} → Reached sheet r → Reached sheet (sweeps sheet fuel r)
sweeps_reach sheet zero reached = reached
sweeps_reach sheet (suc more) {r} reached =
    either (eqb (length (sweep sheet r).remaining) (length r.remaining))
    (sweeps_reach sheet more (sweep_reaches sheet reached))
  where
    either : (settled : Bool) → Reached sheet (sweeps sheet more (sweep sheet r))
        → Reached sheet (cond settled (sweep sheet r) (sweeps sheet more (sweep sheet r)))
    either true later = sweep_reaches sheet reached
    either false later = later

pub reduction_reached : (sheet : Sheet) → Reached sheet (reduction sheet)
unfolding reduction
reduction_reached sheet = sweeps_reach sheet (suc (length (grants sheet))) at_first
