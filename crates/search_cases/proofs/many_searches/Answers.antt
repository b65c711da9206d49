-- `many_searches`: the steps of a search are at most its budget, and are those of the kinds.
use Rattle.std.proofs.Common.{◌≡◌, ◌+◌, ◌≤◌, arith}
use Rattle.spec.specs.Limits.{search_limit}
use Rattle.spec.specs.Machine.{Kernel, State, search}
use Rattle.search.specs.declared.machine.Ran.{Ran}
use Rattle.search.specs.Laws.Carried.{searched_steps_le}
use Rattle.search.specs.View.{view_ran}
use Rattle.search_cases.specs.Crown.{grants, part}
use Rattle.search_cases.specs.AddUp.{searched_add_up}
use Rattle.search_cases.proofs.many_searches.Goals as goal

spent : (kernel : Kernel) (st : State) (ran : Ran) → view_ran ran grants ≡ search kernel part st
    → (ran.steps ≤ part) × (ran.kinds.placed + ran.kinds.taken_back + ran.kinds.closed ≡ ran.steps)
spent kernel st ran e = (searched_steps_le kernel part grants st ran e, searched_add_up kernel part grants st ran e)

pub overflow_add-steps : goal.overflow_add-steps
overflow_add-steps c =
    let told = spent _ _ c.search-ran.result c.search-ran.ensures.kernel_value in
    omega (arith, told.0, c.loop-searches.invariant.2)

pub overflow_add-placed : goal.overflow_add-placed
overflow_add-placed c =
    let told = spent _ _ c.search-ran.result c.search-ran.ensures.kernel_value in
    omega (arith, told, c.loop-searches.invariant)

pub overflow_add-taken_back : goal.overflow_add-taken_back
overflow_add-taken_back c =
    let told = spent _ _ c.search-ran.result c.search-ran.ensures.kernel_value in
    omega (arith, told, c.loop-searches.invariant)

pub overflow_add-closed : goal.overflow_add-closed
overflow_add-closed c =
    let told = spent _ _ c.search-ran.result c.search-ran.ensures.kernel_value in
    omega (arith, told, c.loop-searches.invariant)

pub loop-searches-preserved : goal.loop-searches-preserved
unfolding search_limit
loop-searches-preserved c =
    let few : grants ≤ search_limit = omega arith in
    let told = spent _ _ c.search-ran.result c.search-ran.ensures.kernel_value in (
      c.search-ran.ensures.position_stands few,
      omega (arith, told.1),
      omega (arith, told.0),
      omega arith,
    )
