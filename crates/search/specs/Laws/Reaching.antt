-- A machine whose best placement reaches w is finished: it is so at the start, and a step that copies a placement as
-- the best one finishes exactly where that reaches w. So a machine that is not finished has not reached w. Assumes
-- nothing.
use Rattle.std.specs.Prelude.{ℕ, ◌≡◌, refl, List}
use Rattle.std.proofs.Common.{⊎_elim}
use Rattle.std.proofs.Math.Bool.{So}
use Rattle.spec.specs.Limits.{search_limit}
use Rattle.spec.specs.Machine.{Kernel, State, Step, reaches_witness, start, step, no_step, search}
use Rattle.bits.specs.Laws.Below.{below_or_from}
use Rattle.search.specs.Laws.Steps.{Stepped, placing, improving, taking_back, closing, step_cases}
use Rattle.search.specs.Laws.Runs.{run_finished, search_within, search_above, search_keeps}

-- reaching w finishes
abbrev pub Reaching : Kernel → State → Type 0
Reaching kernel st = So (reaches_witness kernel st.best) → So st.finished

pub reaching_start : (kernel : Kernel) (first : List ℕ) → Reaching kernel (start kernel first)
reaching_start kernel first reaches = reaches

reaching_step : (kernel : Kernel) (st : State) → Reaching kernel st → Reaching kernel (step kernel st).state
reaching_step kernel st r = by_cases (step_cases kernel st)
  where
    by_cases : {after : Step} → Stepped kernel st after → Reaching kernel after.state
    by_cases (placing c w not-whole) = r
    by_cases (improving c w whole) = λ reaches. reaches
    by_cases (taking_back a earlier e h) = r
    by_cases (closing e h) = λ reaches. refl

pub reaching_search : (kernel : Kernel) (budget : ℕ) (st : State) → Reaching kernel st
    → Reaching kernel (search kernel budget st).state
reaching_search kernel = search_keeps kernel (Reaching kernel) (λ st e. reaching_step kernel st)

-- a search makes no step of a finished machine
pub search_finished : (kernel : Kernel) (budget : ℕ) (st : State) → So st.finished → search kernel budget st ≡
    no_step st
search_finished kernel budget st f =
    ⊎_elim (λ l. search_above kernel budget st l)
    (λ l. rw (search_within kernel budget st l) (run_finished kernel budget st f))
    (below_or_from search_limit kernel.size)
