-- The reduction is whole: one more sweep over it removes nothing. A visit of a remaining grant changes nothing or
-- leaves fewer grants, and so does a sweep; as many sweeps as there are grants, and one more, cannot all leave fewer.
use Rattle.std.specs.Prelude.{ℕ, zero, suc, ◌<◌, ◌≡◌, refl, ◌⊎◌, Bool, true, false, not, cond, eqb, length}
use Rattle.std.proofs.Common.{not-suc-le-zero, le_refl, arith, ap, ◌∙◌, inl, inr, eqb-true}
use mathlib.Core.List.{List, [], ◌∷◌, Memᴰ}
use Rattle.std.proofs.lemmas.Bool.{eqb-false}
use Rattle.spec.specs.Sheet.{Sheet, Grant, same_grant, grants}
use Rattle.spec.specs.Reduction.{Reduction, Verdict, stays, is_single, is_tied, verdict, carry_out, visit, visits}
use Rattle.spec.specs.Reduction.{sweep, sweeps, reduction}
use Rattle.lists.specs.FilterLength.{filter_shorter}
use Rattle.lists.specs.Distinct.{Distinct}
use Rattle.cells.specs.Laws.Grant.{same_grant_refl}
use Rattle.minimality.specs.Removals.{Reached, at_first, remaining_distinct, carry_out_leaves, sweep_reaches}

-- a state is as it was, or fewer grants remain
abbrev pub SameOrLess : Reduction → Reduction → Type 0
SameOrLess after before = (after ≡ before) ⊎ (length after.remaining < length before.remaining)

carry_out_same_or_less : (judged : Verdict) (it : Grant) (r : Reduction) → Memᴰ it r.remaining
    → SameOrLess (carry_out judged it r) r
carry_out_same_or_less stays it r m = inl refl
carry_out_same_or_less is_single it r m =
    inr (filter_shorter (λ h. not (same_grant it h)) r.remaining m (ap not (same_grant_refl it)))
carry_out_same_or_less (is_tied g) it r m =
    inr (filter_shorter (λ h. not (same_grant it h)) r.remaining m (ap not (same_grant_refl it)))

same_or_less_then : {first second third : Reduction} → SameOrLess second first → SameOrLess third second
    → SameOrLess third first
same_or_less_then (inl e) (inl f) = inl (f ∙ e)
same_or_less_then (inl e) (inr l) = inr (rw (ap (λ r. length r.remaining) e) at l)
same_or_less_then (inr k) (inl f) = inr (rw (ap (λ r. length r.remaining) f) k)
same_or_less_then (inr k) (inr l) = inr (omega arith)

visits_same_or_less : (sheet : Sheet) (visited : List Grant) (r : Reduction) → Distinct visited
    → ((g : Grant) → Memᴰ g visited → Memᴰ g r.remaining) → SameOrLess (visits sheet visited r) r
visits_same_or_less sheet [] r distinct remain = inl refl
visits_same_or_less sheet (it ∷ later) r distinct remain =
    same_or_less_then (carry_out_same_or_less (verdict sheet r.remaining it) it r (remain it (Memᴰ.head refl)))
    (visits_same_or_less sheet later (visit sheet it r) distinct.1
    (λ g m. carry_out_leaves (verdict sheet r.remaining it) it r (distinct.0 g m) (remain g (Memᴰ.tail m))))

-- a sweep removes nothing, or leaves fewer grants
pub sweep_same_or_less : (sheet : Sheet) {r : Reduction} → Reached sheet r → SameOrLess (sweep sheet r) r
sweep_same_or_less sheet {r} reached =
    visits_same_or_less sheet r.remaining r (remaining_distinct reached) (λ g m. m)

-- with more sweeps at hand than grants remain, the last of them removes nothing
pub sweeps_end : (sheet : Sheet) (fuel : ℕ) {r : Reduction} → Reached sheet r → length r.remaining < fuel
    → sweep sheet (sweeps sheet fuel r) ≡ sweeps sheet fuel r
sweeps_end sheet zero reached enough = absurd (not-suc-le-zero enough)
sweeps_end sheet (suc more) {r} reached enough =
    either (eqb (length (sweep sheet r).remaining) (length r.remaining)) refl (sweep_same_or_less sheet reached)
    (sweeps_end sheet more (sweep_reaches sheet reached))
  where
    either : (settled : Bool) → eqb (length (sweep sheet r).remaining) (length r.remaining) ≡ settled
        → SameOrLess (sweep sheet r) r
        → (length (sweep sheet r).remaining < more → sweep sheet (sweeps sheet more (sweep sheet r)) ≡ sweeps sheet
        more (sweep sheet r))
        → sweep sheet (cond settled (sweep sheet r) (sweeps sheet more (sweep sheet r)))
        ≡ cond settled (sweep sheet r) (sweeps sheet more (sweep sheet r))
    either true e (inl same) later = ap (sweep sheet) same
    either true e (inr less) later = absurd
        (omega (arith, eqb-true (length (sweep sheet r).remaining) (length r.remaining) e))
    either false e (inl same) later =
        absurd (eqb-false (length (sweep sheet r).remaining) (length r.remaining) e
        (ap (λ s. length s.remaining) same))
    either false e (inr less) later = later (omega arith)

-- one more sweep removes nothing
pub sweeps_settle : (sheet : Sheet) → sweep sheet (reduction sheet) ≡ reduction sheet
unfolding reduction
sweeps_settle sheet = sweeps_end sheet (suc (length (grants sheet))) at_first (le_refl (suc (length (grants sheet))))
