-- What the steps of every run and every search were, from every state. The three counts add up to the steps; placed
-- less taken back is the depth gained; at most one step closed, and one did exactly where the run closed the machine.
-- Each step does its part: a placing adds one grant, a taking back takes one off, and a closing finishes the machine
-- with no grant placed, after which no step is made. A run that finishes the machine otherwise ends with all grants
-- placed. Assumes nothing.
use Rattle.std.specs.Prelude.{ℕ, zero, suc, ◌+◌, ◌≤◌, ◌≡◌, refl, ◌↔◌, false, length}
use Rattle.std.proofs.Common.{ap, ◌∙◌, ⊎_elim, arith}
use Rattle.std.proofs.Math.Bool.{So}
use Rattle.spec.specs.Limits.{search_limit}
use Rattle.spec.specs.Machine.{Kernel, State, Step, StepKind, depth, step, Kinds, counted, Ran, no_step, one_more, run}
use Rattle.spec.specs.Machine.{search}
use Rattle.spec.specs.Machine as machine
use Rattle.bits.specs.Truth.{passes_or_fails, not_both}
use Rattle.bits.specs.Laws.Below.{below_or_from}
use Rattle.search.specs.Laws.Steps.{Stepped, placing, improving, taking_back, closing, step_cases}
use Rattle.search.specs.Laws.Runs.{run_none, run_finished, run_step, kinds_together, run_add, search_within}
use Rattle.search.specs.Laws.Runs.{search_above}

-- one more of a kind is one more in all
pub one_more_in_all : (kind : StepKind) (n : Kinds)
    → (counted kind n).placed + (counted kind n).taken_back + (counted kind n).closed
    ≡ suc (n.placed + n.taken_back + n.closed)
one_more_in_all machine.placing n = omega arith
one_more_in_all machine.taking_back n = omega arith
one_more_in_all machine.closing n = omega arith

-- the run closed the machine: it was not finished, and now it is, with no grant placed
pub record Closes (before after : State) : Type 0 where
  pub was_open : before.finished ≡ false
  pub finished : So after.finished
  pub empty : depth after ≡ 0

-- what the steps from a state were, of a run that led so
pub record StepsTold (before : State) (ran : Ran) : Type 0 where
  pub add_up : ran.kinds.placed + ran.kinds.taken_back + ran.kinds.closed ≡ ran.steps
  pub depth_gained : depth ran.state + ran.kinds.taken_back ≡ depth before + ran.kinds.placed
  pub closed_once : ran.kinds.closed ≤ 1
  pub closed_here : ran.kinds.closed ≡ 1 → Closes before ran.state
  pub closes : Closes before ran.state → ran.kinds.closed ≡ 1

-- no step
told_none : (st : State) → StepsTold st (no_step st)
told_none st =
    record {
      add_up = refl;
      depth_gained = refl;
      closed_once = omega arith;
      closed_here = λ never. absurd (omega arith);
      closes = λ c. absurd (not_both c.finished c.was_open);
    }

-- a step from a state that is not finished, and then a run that makes no step of a finished one
told_more : (kernel : Kernel) (st : State) → st.finished ≡ false → {after : Step} → Stepped kernel st after
    → (later : Ran) → StepsTold after.state later → (So after.state.finished → later ≡ no_step after.state)
    → StepsTold st (one_more after.kind later)
told_more kernel st u {after} (placing c w not-whole) later t stays =
    record {
      add_up = one_more_in_all machine.placing later.kinds ∙ ap suc t.add_up;
      depth_gained = omega (arith, t.depth_gained);
      closed_once = t.closed_once;
      closed_here = λ e. let c = t.closed_here e in record { was_open = u; finished = c.finished; empty = c.empty };
      closes = λ c. t.closes (record { was_open = u; finished = c.finished; empty = c.empty });
    }
told_more kernel st u {after} (improving c w whole) later t stays =
    record {
      add_up = one_more_in_all machine.placing later.kinds ∙ ap suc t.add_up;
      depth_gained = omega (arith, t.depth_gained);
      closed_once = t.closed_once;
      closed_here = λ e. let c = t.closed_here e in record { was_open = u; finished = c.finished; empty = c.empty };
      closes = λ c.
          ⊎_elim
          (λ f. absurd (omega (arith, c.empty, ap (λ (ran : Ran). depth ran.state) (stays f))))
          (λ f. t.closes (record { was_open = f; finished = c.finished; empty = c.empty }))
          (passes_or_fails after.state.finished);
    }
told_more kernel st u {after} (taking_back a earlier e h) later t stays =
    record {
      add_up = one_more_in_all machine.taking_back later.kinds ∙ ap suc t.add_up;
      depth_gained = omega (arith, t.depth_gained, ap length e);
      closed_once = t.closed_once;
      closed_here = λ e. let c = t.closed_here e in record { was_open = u; finished = c.finished; empty = c.empty };
      closes = λ c. t.closes (record { was_open = u; finished = c.finished; empty = c.empty });
    }
told_more kernel st u {after} (closing e h) later t stays =
    let none = stays refl in
    record {
      add_up = one_more_in_all machine.closing later.kinds ∙ ap suc t.add_up;
      depth_gained = omega (arith, t.depth_gained, ap length e);
      closed_once = omega (arith, ap (λ (ran : Ran). ran.kinds.closed) none);
      closed_here = λ once. record { was_open = u; finished = rw none refl; empty = rw none refl };
      closes = λ c. omega (arith, ap (λ (ran : Ran). ran.kinds.closed) none);
    }

pub run_told : (kernel : Kernel) (budget : ℕ) (st : State) → StepsTold st (run kernel budget st)
run_told kernel zero st = rw run_none (told_none st)
run_told kernel (suc budget) st =
    ⊎_elim (λ e. rw (run_finished kernel (suc budget) st e) (told_none st))
    (λ e. rw (run_step kernel budget st e)
    (told_more kernel st e (step_cases kernel st) (run kernel budget (step kernel st).state)
    (run_told kernel budget (step kernel st).state) (run_finished kernel budget (step kernel st).state)))
    (passes_or_fails st.finished)

pub search_told : (kernel : Kernel) (budget : ℕ) (st : State) → StepsTold st (search kernel budget st)
search_told kernel budget st =
    ⊎_elim (λ l. rw (search_above kernel budget st l) (told_none st))
    (λ l. rw (search_within kernel budget st l) (run_told kernel budget st))
    (below_or_from search_limit kernel.size)

-- ---- the theorems, of every run from every state

module _ (kernel : Kernel) (budget : ℕ) (st : State) where
  abbrev ran : Ran
  ran = run kernel budget st

  -- the three add up to the steps
  pub placed_taken_back_and_closed_are_the_steps :
      ran.kinds.placed + ran.kinds.taken_back + ran.kinds.closed ≡ ran.steps
  placed_taken_back_and_closed_are_the_steps = (run_told kernel budget st).add_up

  -- depth after + taken back = depth before + placed
  pub placed_less_taken_back_is_the_depth_gained :
      depth ran.state + ran.kinds.taken_back ≡ depth st + ran.kinds.placed
  placed_less_taken_back_is_the_depth_gained = (run_told kernel budget st).depth_gained

  -- closed is at most 1
  pub closed_at_most_once : ran.kinds.closed ≤ 1
  closed_at_most_once = (run_told kernel budget st).closed_once

  -- and is 1 exactly where this run closed the machine
  pub closed_exactly_where_it_closed : (ran.kinds.closed ≡ 1) ↔ Closes st ran.state
  closed_exactly_where_it_closed = ((run_told kernel budget st).closed_here, (run_told kernel budget st).closes)

  -- the counts of two runs add up to those of the joined run; so do those of two searches (`search_add`: Runs)
  pub counts_of_two_runs_add_up : (later : ℕ)
      → let joined = run kernel (budget + later) st in
      let second = run kernel later ran.state in
      (joined.steps ≡ ran.steps + second.steps) × (joined.kinds ≡ kinds_together ran.kinds second.kinds)
  counts_of_two_runs_add_up later =
      let both = run_add kernel budget later st in
      (ap (λ (r : Ran). r.steps) both, ap (λ (r : Ran). r.kinds) both)
