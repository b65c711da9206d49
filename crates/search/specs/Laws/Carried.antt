-- Positions from their start through several searches: the position before the first step stands for the machine's
-- start, and a search that goes on where another came to makes, with it, the search of both budgets.
use Rattle.std.specs.Prelude.{ℕ, ◌≤◌, ◌≡◌, List}
use Rattle.spec.specs.Limits.{search_limit}
use Rattle.spec.specs.Cover.{used}
use Rattle.spec.specs.Machine.{Kernel, State, start, search}
use Rattle.lists.specs.LatestFirst.{latest_first}
use Rattle.search.specs.declared.machine.Ran.{Ran}
use Rattle.moves.specs.declared.cursor.Sizes.{Sizes}
use Rattle.search.specs.Laws.Runs.{search_steps_le}
use Rattle.moves.specs.FitTable.{kernel_given}
use Rattle.search.specs.View.{view, view_ran, PositionStands, started}
use Rattle.moves.specs.Laws.Trail.{trail_none}

-- the first placement's class count is right
module _ (first : List ℕ) (count : ℕ) (sizes : Sizes) (counted : count ≡ used (latest_first first sizes.kernel))
  where
    pub started_view : (table : List ℕ)
        → view (started first count sizes) sizes.kernel ≡ start (kernel_given table sizes)
        (latest_first first sizes.kernel)
    started_view table = rw counted

    pub started_stands : sizes.kernel ≤ search_limit → PositionStands sizes.kernel (started first count sizes)
    started_stands l =
        record {
          size_within = l;
          trail = trail_none sizes.kernel (record { low = 0; high = 0 }) (started first count sizes).classes;
          best_counted = counted;
        }

-- no more steps than the budget
pub searched_steps_le : (kernel : Kernel) (budget size : ℕ) (st : State) (ran : Ran)
    → view_ran ran size ≡ search kernel budget st → ran.steps ≤ budget
searched_steps_le kernel budget size st ran e = rw (← e) at (search_steps_le kernel budget st)
