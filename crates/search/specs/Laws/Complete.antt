-- Nothing is passed over. A placement that is better than the best never stands before the machine's position: a
-- class that the machine skips is unfit, was tried before, or would use as many classes as the best, and a better
-- placement has no such class. So where the machine closes, no placement is better than the best, and with it no
-- classing, since every classing can be renumbered by first appearance. Assumes nothing.
use Rattle.std.specs.Prelude.{ℕ, suc, ◌≤◌, ◌<◌, max, ◌≡◌, false, ◌⊎◌, List, [], ◌∷◌, length}
use Rattle.std.proofs.Common.{zero-le, ap, ◌∙◌, inl, inr, ⊎_elim, le_trans, eq-or-lt_of_le, arith, lt-ltb, le-leb}
use Rattle.std.proofs.Math.Bool.{So}
use Rattle.spec.specs.Cover.{used}
use Rattle.spec.specs.Machine.{Kernel, State, Step, depth, best_count, reaches_witness, start, possible, step, search}
use Rattle.bits.specs.Truth.{and_intro, not_both}
use Rattle.bits.specs.Laws.Below.{below_or_from}
use Rattle.lists.specs.Classing.{Classing}
use Rattle.lists.specs.Beginning.{Begins, nothing_begins, begins_and_goes_on, begins_length_le, begins_used_le}
use Rattle.lists.specs.Beginning.{begins_valid, begins_grown}
use Rattle.search.specs.Laws.Steps.{Chosen, NoneChosen, Stepped, placing, improving, taking_back, closing}
use Rattle.search.specs.Laws.Steps.{step_cases}
use Rattle.search.specs.Laws.Runs.{search_keeps}
use Rattle.search.specs.Laws.SoundState.{Whole, SoundState, sound_step}
use Rattle.search.specs.Laws.Canonical.{canonical}

-- a placement does not stand before a position: where it begins as the position does, its next class is not lower
abbrev pub NotBefore : List ℕ → List ℕ → Type 0
NotBefore x [] = Unit {0}
NotBefore x (t ∷ placed) = ((c : ℕ) → Begins (c ∷ placed) x → t ≤ c) × NotBefore x placed

-- no placement of the whole kernel has fewer classes
abbrev pub NoneBetter : Kernel → List ℕ → Type 0
NoneBetter kernel best = (x : List ℕ) → Whole kernel x → used best ≤ used x

-- no classing of the kernel has fewer classes
abbrev pub Smallest : Kernel → List ℕ → Type 0
Smallest kernel best =
    (count : ℕ) (class : ℕ → ℕ) → Classing kernel.fit kernel.size count class → used best ≤ count

-- every placement that is better than the best is still ahead, and where the machine is finished there is none unless
-- w is reached
pub record Passed (kernel : Kernel) (st : State) : Type 0 where
  pub ahead : (x : List ℕ) → Whole kernel x → used x < best_count st → NotBefore x (st.next ∷ st.placed)
  pub closed : So st.finished → So (reaches_witness kernel st.best) ⊎ NoneBetter kernel st.best

pub passed_start : (kernel : Kernel) (first : List ℕ) → Passed kernel (start kernel first)
passed_start kernel first = record { ahead = λ x w l. (λ c b. zero-le, tt); closed = inl }

-- ---- one step

-- a placement that is better than the best and is still ahead
record Better (kernel : Kernel) (st : State) (x : List ℕ) : Type 0 where
  whole : Whole kernel x
  fewer : used x < best_count st
  ahead : NotBefore x (st.next ∷ st.placed)

still_ahead : (kernel : Kernel) (st : State) (x : List ℕ) → Passed kernel st → Whole kernel x → used x < best_count st
    → Better kernel st x
still_ahead kernel st x p w l = record { whole = w; fewer = l; ahead = p.ahead x w l }

-- the class with which a better placement goes on is possible
next_is_possible : (kernel : Kernel) (st : State) (x : List ℕ) (c : ℕ) → Better kernel st x → Begins (c ∷ st.placed) x
    → So (possible kernel st c)
next_is_possible kernel st x c r b =
    let room : depth st < kernel.size = omega (arith, begins_length_le (c ∷ st.placed) x b, r.whole.size) in
    let below : max (used st.placed) (suc c) < best_count st = omega (
      arith,
      begins_used_le (c ∷ st.placed) x b,
      r.fewer,
    ) in
    let untried = r.ahead.0 c b in
    let joining = (begins_valid kernel.fit (c ∷ st.placed) x b r.whole.valid).0 in
    Prim.search (and_intro, lt-ltb, le-leb)

-- where no class is possible, no better placement begins with what is placed
none_goes_on : (kernel : Kernel) (st : State) (x : List ℕ) → SoundState kernel st → NoneChosen kernel st
    → Better kernel st x
    → Begins st.placed x → ⊥
none_goes_on kernel st x s h r b = by_cases (begins_and_goes_on st.placed x b)
  where
    by_cases : (st.placed ≡ x) ⊎ ((c : ℕ) × Begins (c ∷ st.placed) x) → ⊥
    by_cases (inl e) = omega (arith, r.fewer, s.whole_no_better (ap length e ∙ r.whole.size), ap used e)
    by_cases (inr g) =
        not_both (next_is_possible kernel st x g.0 r g.1)
        (h g.0 (begins_grown (g.0 ∷ st.placed) x g.1 r.whole.grown).0)

-- placing skips no class with which a better placement goes on
placing_passes_none : (kernel : Kernel) (st : State) (x : List ℕ) (c : ℕ) → Chosen kernel st c → Better kernel st x
    → NotBefore x (0 ∷ c ∷ st.placed)
placing_passes_none kernel st x c chosen r = (λ d b. zero-le, (not_lower, r.ahead.1))
  where
    not_lower : (d : ℕ) → Begins (d ∷ st.placed) x → c ≤ d
    not_lower d b =
        ⊎_elim (λ k. absurd (not_both (next_is_possible kernel st x d r b) (chosen.lowest d k))) (λ k. k)
        (below_or_from d c)

-- taking back passes none, since no better placement begins with what was placed
taking_back_passes_none : (kernel : Kernel) (st : State) (x : List ℕ) (a : ℕ) (earlier : List ℕ) → SoundState kernel st
    → st.placed ≡ a ∷ earlier → NoneChosen kernel st → Better kernel st x → NotBefore x (suc a ∷ earlier)
taking_back_passes_none kernel st x a earlier s e h r = (higher, n.1.1)
  where
    n : NotBefore x (st.next ∷ a ∷ earlier)
    n = rw e at r.ahead

    higher : (c : ℕ) → Begins (c ∷ earlier) x → a < c
    higher c b =
        ⊎_elim (λ (i : a ≡ c). absurd (none_goes_on kernel st x s h r (rw (e, i) b))) (λ l. l)
        (eq-or-lt_of_le (n.1.0 c b))

-- closing passes none, since nothing at all is placed
closing_leaves_none_better : (kernel : Kernel) (st : State) → SoundState kernel st → Passed kernel st
    → st.placed ≡ [] → NoneChosen kernel st
    → NoneBetter kernel st.best
closing_leaves_none_better kernel st s p e h x w =
    ⊎_elim (λ l. absurd (none_goes_on kernel st x s h (still_ahead kernel st x p w l) (rw e (nothing_begins x))))
    (λ l. l)
    (below_or_from (used x) (best_count st))

pub passed_step : (kernel : Kernel) (st : State) → SoundState kernel st → Passed kernel st
    → Passed kernel (step kernel st).state
passed_step kernel st s p = by_cases (step_cases kernel st)
  where
    by_cases : {after : Step} → Stepped kernel st after → Passed kernel after.state
    by_cases (placing c chosen unfilled) =
        record {
          ahead = λ x w l. placing_passes_none kernel st x c chosen (still_ahead kernel st x p w l);
          closed =
              p.closed;
        }
    by_cases (improving c chosen full) =
        record {
          ahead =
              λ x w l. placing_passes_none kernel st x c chosen (still_ahead kernel st x p w
              (omega (arith, chosen.below_best)));
          closed = inl;
        }
    by_cases (taking_back a earlier e h) =
        record {
          ahead = λ x w l. taking_back_passes_none kernel st x a earlier s e h (still_ahead kernel st x p w l);
          closed = p.closed;
        }
    by_cases (closing e h) =
        record {
          ahead = λ x w l. rw e at (p.ahead x w l);
          closed = λ f.
              inr (closing_leaves_none_better kernel st s p e h);
        }

-- ---- runs and searches

both_step : (kernel : Kernel) (st : State) → st.finished ≡ false → SoundState kernel st × Passed kernel st
    → SoundState kernel (step kernel st).state × Passed kernel (step kernel st).state
both_step kernel st e h = (sound_step kernel st h.0, passed_step kernel st h.0 h.1)

pub passed_search : (kernel : Kernel) (budget : ℕ) (st : State) → SoundState kernel st → Passed kernel st
    → Passed kernel (search kernel budget st).state
passed_search kernel budget st s p =
    (search_keeps kernel (λ later. SoundState kernel later × Passed kernel later) (both_step kernel) budget st (s, p)).1

-- ---- what a finished machine says

-- where no placement is better, no classing has fewer classes
none_better_is_smallest : (kernel : Kernel) (best : List ℕ) → NoneBetter kernel best → Smallest kernel best
none_better_is_smallest kernel best h count class classing =
    let x = canonical kernel.fit kernel.size count class classing in
    le_trans (h x.placement (record { size = x.size; valid = x.valid; grown = x.grown })) x.used_le

-- a finished machine has reached w, or no classing of the kernel has fewer classes than its best placement
pub finished_is_smallest : (kernel : Kernel) (st : State) → Passed kernel st → So st.finished
    → So (reaches_witness kernel st.best) ⊎ Smallest kernel st.best
finished_is_smallest kernel st p f = ⊎_elim inl (λ h. inr (none_better_is_smallest kernel st.best h)) (p.closed f)
