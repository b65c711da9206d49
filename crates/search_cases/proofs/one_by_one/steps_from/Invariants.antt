-- `one_by_one::steps_from`: at each turn the run is the steps made, counted by kind, and the run of the budget left
-- (`Running`), which one step more keeps. The measure is the budget left. The loop ends when there is none, or when the
-- position is finished.
use Rattle.std.proofs.Common.{◌-◌}
use Rattle.moves.specs.FitTable.{kernel_given}
use Rattle.moves.specs.StepKinds.{kinds_said}
use Rattle.search.specs.View.{parts_of, view}
use Rattle.search.specs.Laws.Running.{Running}
use Rattle.search_cases.specs.Crown.{grants, sizes}
use Rattle.search_cases.proofs.one_by_one.steps_from.Given as goal

abbrev pub invariant-loop-steps : goal.invariant-loop-steps
invariant-loop-steps l =
    Running (kernel_given l.fit sizes) l.budget (view l.fn.from grants) (parts_of l.position) l.steps (kinds_said l.kinds)

abbrev pub decreases-loop-steps : goal.decreases-loop-steps
decreases-loop-steps l = l.budget - l.steps
