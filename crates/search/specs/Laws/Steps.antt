-- What one step does, by cases: it places a grant in the lowest possible class, with or without filling the
-- placement; or no class is possible and it takes the latest grant back, or closes the search where there is none.
-- The cases come from what the lowest passing number below a bound is. Assumes nothing.
use Rattle.std.specs.Prelude.{ℕ, suc, max, ◌≤◌, ◌<◌, ◌≡◌, refl, Bool, true, false, cond, List, [], ◌∷◌, eqb}
use Rattle.std.proofs.Math.Bool.{So, and-eq-true_iff}
use Rattle.std.proofs.Math.Option.{Option, none, some}
use Rattle.std.proofs.Common.{arith, ltb-true, leb-true, eqb-true}
use Rattle.std.proofs.lemmas.Bool.{eqb-false}
use Rattle.spec.specs.Cover.{used, joins}
use Rattle.spec.specs.Machine.{Kernel, State, Step, depth, best_count, possible, choice, improved, placed_in, place}
use Rattle.spec.specs.Machine.{take_back_or_close, move, step}
use Rattle.spec.specs.Machine as machine
use Rattle.bits.specs.Laws.Lowest.{lowest_below_elim, lowest_below_none_elim}

-- class c is the one in which grant d is placed
pub record Chosen (kernel : Kernel) (st : State) (c : ℕ) : Type 0 where
  pub not_full : depth st < kernel.size
  pub not_tried : st.next ≤ c
  pub used_or_next : c ≤ used st.placed
  pub below_best : max (used st.placed) (suc c) < best_count st
  pub joining : So (joins kernel.fit (depth st) st.placed c)
  pub lowest : (j : ℕ) → j < c → possible kernel st j ≡ false

-- grant d can be placed in no class, or there is no grant d
abbrev pub NoneChosen : Kernel → State → Type 0
NoneChosen kernel st = (c : ℕ) → c ≤ used st.placed → possible kernel st c ≡ false

-- a step that placed, with the state after it
abbrev pub by_placing : State → Step
by_placing after = record { state = after; kind = machine.placing }

-- the state that one step leads to, and what the step was
pub data Stepped (kernel : Kernel) (st : State) : Step → Type 0 where
  placing : (c : ℕ) → Chosen kernel st c → (suc (depth st) ≡ kernel.size → ⊥)
      → Stepped kernel st (by_placing (placed_in st c))
  improving : (c : ℕ) → Chosen kernel st c → suc (depth st) ≡ kernel.size
      → Stepped kernel st (by_placing (improved kernel (placed_in st c)))
  taking_back : (a : ℕ) (earlier : List ℕ) → st.placed ≡ a ∷ earlier → NoneChosen kernel st
      → Stepped kernel st (take_back_or_close st (a ∷ earlier))
  closing : st.placed ≡ [] → NoneChosen kernel st → Stepped kernel st (take_back_or_close st [])

-- what the choice of a class says of it
pub chosen : (kernel : Kernel) (st : State) (c : ℕ) → choice kernel st ≡ some c → Chosen kernel st c
chosen kernel st c e =
    let w = lowest_below_elim (suc (used st.placed)) (possible kernel st) e in
    let tests = simp and-eq-true_iff at w.holds in
    record {
      not_full = ltb-true (depth st) kernel.size tests.0.0.0;
      not_tried = leb-true st.next c tests.0.0.1;
      used_or_next = omega (arith, w.within);
      below_best = ltb-true (max (used st.placed) (suc c)) (best_count st) tests.0.1;
      joining = tests.1;
      lowest = w.first;
    }

pub none_chosen : (kernel : Kernel) (st : State) → choice kernel st ≡ none → NoneChosen kernel st
none_chosen kernel st e c l = lowest_below_none_elim (suc (used st.placed)) (possible kernel st) e (omega arith)

stepped_by_placing : (kernel : Kernel) (st : State) (c : ℕ) → Chosen kernel st c
    → Stepped kernel st (by_placing (place kernel st c))
stepped_by_placing kernel st c w = by_size (eqb (suc (depth st)) kernel.size) refl
  where
    by_size :
        (full : Bool) → eqb (suc (depth st)) kernel.size ≡ full
        → Stepped kernel st (by_placing (cond full (improved kernel (placed_in st c)) (placed_in st c)))
    by_size true e = improving c w (eqb-true (suc (depth st)) kernel.size e)
    by_size false e = placing c w (eqb-false (suc (depth st)) kernel.size e)

stepped_by_taking_back : (kernel : Kernel) (st : State) → NoneChosen kernel st
    → Stepped kernel st (take_back_or_close st st.placed)
stepped_by_taking_back kernel st h = latest st.placed refl
  where
    latest : (l : List ℕ) → st.placed ≡ l → Stepped kernel st (take_back_or_close st l)
    latest [] e = closing e h
    latest (a ∷ earlier) e = taking_back a earlier e h

-- every step is of one of the four cases
pub step_cases : (kernel : Kernel) (st : State) → Stepped kernel st (step kernel st)
unfolding step
step_cases kernel st = by_choice (choice kernel st) refl
  where
    by_choice : (o : Option ℕ) → choice kernel st ≡ o → Stepped kernel st (move kernel st o)
    by_choice (some c) e = stepped_by_placing kernel st c (chosen kernel st c e)
    by_choice none e = stepped_by_taking_back kernel st (none_chosen kernel st e)
