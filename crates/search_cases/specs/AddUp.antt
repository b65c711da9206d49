-- The steps of each kind that a search made add up to its steps, of the machine as of the code. Assumes nothing.
use Rattle.std.specs.Prelude.{ℕ, ◌+◌, ◌≡◌}
use Rattle.spec.specs.Machine.{Kernel, State, search}
use Rattle.search.specs.declared.machine.Ran.{Ran}
use Rattle.search.specs.View.{view_ran}
use Rattle.search.specs.Laws.StepCounts.{search_told}

pub searched_add_up : (kernel : Kernel) (budget size : ℕ) (st : State) (ran : Ran)
    → view_ran ran size ≡ search kernel budget st
    → ran.kinds.placed + ran.kinds.taken_back + ran.kinds.closed ≡ ran.steps
searched_add_up kernel budget size st ran e = rw (← e) at (search_told kernel budget st).add_up
