-- A budget of 2 · (1! + .. + k!) + 1 ends the search of every kernel of k grants, whatever the first cover. The
-- potential is that number at the start and at least 1 at every position, and each step that does not close the
-- search lowers it: so the budget is not used up before the machine is finished. Assumes nothing.
use Rattle.std.specs.Prelude.{ℕ, zero, suc, ◌-◌, ◌≤◌, ◌<◌, ◌≡◌, refl, ◌⊎◌, List, ◌∷◌, length}
use Rattle.std.proofs.Common.{inl, inr, ⊎_elim, le_trans, le_of_eq, arith}
use Rattle.std.proofs.Math.Bool.{So}
use Rattle.spec.specs.Limits.{search_limit}
use Rattle.spec.specs.Machine.{Kernel, State, Step, depth, start, step, run, search}
use Rattle.spec.specs.Sequence.{enough}
use Rattle.bits.specs.Truth.{passes_or_fails}
use Rattle.lists.specs.GrownLaws.{grown_used_le}
use Rattle.search.specs.Laws.Steps.{Chosen, Stepped, placing, improving, taking_back, closing, step_cases}
use Rattle.search.specs.Laws.Runs.{run_finished, run_step, search_within}
use Rattle.search.specs.Laws.Admissible.{Admissible, start_admissible, step_admissible}
use Rattle.search.specs.Laws.Potential.{potential, potential_of, potential_start, potential_positive}
use Rattle.search.specs.Laws.Potential.{placing_lowers, taking_back_lowers}

-- where grant d is not placed, one more is left than after it
one_more_left : (size d : ℕ) → d < size → size - d ≡ suc (size - suc d)
one_more_left size d l = omega arith

-- a step closes the search, or lowers the potential
pub step_closes_or_lowers : (kernel : Kernel) (st : State) → Admissible kernel st
    → So (step kernel st).state.finished ⊎ (potential kernel (step kernel st).state < potential kernel st)
step_closes_or_lowers kernel st s = by_cases (step_cases kernel st)
  where
    by_placing : (c : ℕ) → Chosen kernel st c → potential_of (kernel.size - suc (depth st)) (c ∷ st.placed) 0 <
        potential kernel st
    by_placing c w =
        rw (one_more_left kernel.size (depth st) w.not_full)
        (placing_lowers (kernel.size - suc (depth st)) st.placed st.next c w.not_tried
        (le_trans w.used_or_next (grown_used_le st.placed s.grown)))

    by_cases : {after : Step} → Stepped kernel st after
        → So after.state.finished ⊎ (potential kernel after.state < potential
        kernel st)
    by_cases (placing c w not-whole) = inr (by_placing c w)
    by_cases (improving c w whole) = inr (by_placing c w)
    by_cases (taking_back a earlier e h) =
        let l : suc (length earlier) ≤ kernel.size = rw e at s.depth_le in
        inr
        (rw (e, one_more_left kernel.size (length earlier) l)
        (taking_back_lowers (kernel.size - suc (length earlier)) a earlier st.next))
    by_cases (closing e h) = inl refl

-- a budget of the potential or more ends the search
pub potential_ends : (kernel : Kernel) (budget : ℕ) (st : State) → Admissible kernel st → potential kernel st ≤ budget
    → So (run kernel budget st).state.finished
potential_ends kernel zero st s l =
    let positive = potential_positive (kernel.size - depth st) st.placed st.next in absurd (omega arith)
potential_ends kernel (suc budget) st s l =
    ⊎_elim (λ e. rw (run_finished kernel (suc budget) st e) e)
    (λ u.
    rw (run_step kernel budget st u)
    (after_step (step_closes_or_lowers kernel st s) (potential_ends kernel budget (step kernel st).state
    (step_admissible kernel st s))))
    (passes_or_fails st.finished)
  where
    after_step :
        So (step kernel st).state.finished ⊎ (potential kernel (step kernel st).state < potential kernel st)
        → (potential kernel (step kernel st).state ≤ budget
        → So (run kernel budget (step kernel st).state).state.finished)
        → So (run kernel budget (step kernel st).state).state.finished
    after_step (inl e) ends = rw (run_finished kernel budget (step kernel st).state e) e
    after_step (inr lower) ends = ends (omega arith)

-- the machine is finished as soon as the budget is enough
pub enough_ends : (kernel : Kernel) (first : List ℕ) (budget : ℕ) → enough kernel.size ≤ budget
    → So (run kernel budget (start kernel first)).state.finished
enough_ends kernel first budget l =
    potential_ends kernel budget (start kernel first) (start_admissible kernel first)
    (le_trans (le_of_eq (potential_start kernel first)) l)

-- the same of one search, where the kernel is searched
pub enough_ends_search : (kernel : Kernel) (first : List ℕ) (budget : ℕ) → kernel.size ≤ search_limit
    → enough kernel.size ≤ budget
    → So (search kernel budget (start kernel first)).state.finished
enough_ends_search kernel first budget s l =
    rw (search_within kernel budget (start kernel first) s) (enough_ends kernel first budget l)

-- the number of steps that the paper gives for its kernel of 12 grants
twelve_grants : enough 12 ≡ 1_045_912_627
twelve_grants = refl
