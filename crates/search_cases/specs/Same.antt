-- A test that tells whether something holds, and when two placements, the counts of two runs' steps and two runs are
-- the same. Assumes nothing.
use Rattle.std.specs.Prelude.{ℕ, zero, suc, ◌<◌, ◌≡◌, refl, Bool, true, false, not, List, eqb, length, get_or, drop}
use Rattle.std.proofs.Common.{not-suc-le-zero, sym, ap, ◌∙◌, ⊎_elim, eqb-true, eq-eqb}
use Rattle.std.proofs.Math.Bool.{So}
use Rattle.std.specs.Bool.{beq}
use Rattle.spec.specs.Machine as machine
use Rattle.bits.specs.Truth.{not_both}
use Rattle.bits.specs.Laws.Below.{last_or_below}
use Rattle.lists.specs.LatestFirst.{latest_first, latest_first_length}
use Rattle.moves.specs.declared.kinds.Kinds.{Kinds}
use Rattle.moves.specs.StepKinds.{kinds_said}
use Rattle.search.specs.declared.machine.Ran.{Ran}
use Rattle.search.specs.View.{view_ran}

-- the test passes just where P holds
pub record Tells (test : Bool) (P : Type 0) : Type 0 where
  pub passes : So test → P
  pub when : P → So test

-- where P cannot hold the test fails
pub told_apart : {P : Type 0} → (P → ⊥) → Tells false P
told_apart apart = record { passes = λ never. absurd (not_both never refl); when = λ p. absurd (apart p) }

-- truth values by a test
pub truth_differs : (a b : Bool) → So (not (beq a b)) → a ≡ b → ⊥
truth_differs true true differs e = not_both differs refl
truth_differs true false differs e = not_both refl e
truth_differs false true differs e = not_both e refl
truth_differs false false differs e = not_both differs refl

pub truth_same : (a b : Bool) → not (beq a b) ≡ false → a ≡ b
truth_same true true same = refl
truth_same true false same = absurd (not_both refl same)
truth_same false true same = absurd (not_both refl same)
truth_same false false same = refl

-- placements that are alike have the same class for each grant
pub same_class : (a b : List ℕ) (n i : ℕ) → i < n → latest_first a n ≡ latest_first b n → get_or a i 0 ≡ get_or b i 0
same_class a b zero i l e = absurd (not-suc-le-zero l)
same_class a b (suc n) i l e =
    ⊎_elim (λ last. rw last (ap (λ (placed : List ℕ). get_or placed 0 0) e)) (λ below. same_class a b n i below
    (ap (drop 1) e)) (last_or_below l)

-- with the other two counts alike, that of the closing steps tells
pub closed_tells : (a b : Kinds) → a.placed ≡ b.placed → a.taken_back ≡ b.taken_back
    → Tells (eqb a.closed b.closed) (kinds_said a ≡ kinds_said b)
closed_tells a b placed taken_back =
    record {
      passes = λ s. rw (placed, taken_back, eqb-true a.closed b.closed s);
      when = λ e. eq-eqb a.closed b.closed (ap (λ (n : machine.Kinds). n.closed) e);
    }

-- ---- runs that came to the same state

module _ (a b : Ran) (size : ℕ) where
  pub same_steps : view_ran a size ≡ view_ran b size → a.steps ≡ b.steps
  same_steps e = ap (λ (r : machine.Ran). r.steps) e

  pub same_depth : view_ran a size ≡ view_ran b size → a.position.cursor.depth ≡ b.position.cursor.depth
  same_depth e =
      sym (latest_first_length a.position.classes a.position.cursor.depth)
      ∙ ap (λ (r : machine.Ran). length r.state.placed) e
      ∙ latest_first_length b.position.classes b.position.cursor.depth

  pub same_next : view_ran a size ≡ view_ran b size → a.position.cursor.next ≡ b.position.cursor.next
  same_next e = ap (λ (r : machine.Ran). r.state.next) e

  pub same_finished : view_ran a size ≡ view_ran b size → a.position.cursor.finished ≡ b.position.cursor.finished
  same_finished e = ap (λ (r : machine.Ran). r.state.finished) e

  pub same_placed : view_ran a size ≡ view_ran b size
      → latest_first a.position.classes a.position.cursor.depth ≡ latest_first b.position.classes
      a.position.cursor.depth
  same_placed e = ap (λ (r : machine.Ran). r.state.placed) e ∙ ap (latest_first b.position.classes)
      (sym (same_depth e))

  pub same_kinds : view_ran a size ≡ view_ran b size → kinds_said a.kinds ≡ kinds_said b.kinds
  same_kinds e = ap (λ (r : machine.Ran). r.kinds) e

  -- with all else alike, the best placements tell
  pub best_tells : {test : Bool} → a.steps ≡ b.steps → a.position.cursor.depth ≡ b.position.cursor.depth
      → a.position.cursor.next ≡ b.position.cursor.next → a.position.cursor.finished ≡
      b.position.cursor.finished
      → latest_first a.position.classes a.position.cursor.depth ≡ latest_first b.position.classes
      a.position.cursor.depth
      → kinds_said a.kinds ≡ kinds_said b.kinds
      → Tells test (latest_first a.position.best size ≡ latest_first b.position.best size)
      → Tells test (view_ran a size ≡ view_ran b size)
  best_tells steps depth next finished placed kinds best =
      record {
        passes = λ s. rw (placed, best.passes s, depth, steps, next, finished, kinds);
        when = λ e. best.when (ap (λ (r : machine.Ran). r.state.best) e);
      }
