-- `Position::run`: at each turn the run is the steps made and the run of the budget left (`Running`), which one step
-- more keeps, and all is ready for the next step. The measure is the budget left.
use Rattle.std.proofs.Common.{◌-◌}
use Rattle.moves.specs.FitTable.{kernel_given}
use Rattle.moves.specs.StepKinds.{kinds_said}
use Rattle.moves.specs.Parts.{at_position, parts_view}
use Rattle.moves.specs.Lent.{Ready}
use Rattle.search.specs.Laws.Running.{Running}
use Rattle.search.proofs.machine.Position.run.Given as goal

abbrev pub invariant-loop-steps : goal.invariant-loop-steps
invariant-loop-steps l =
    Running (kernel_given l.fit l.sizes) l.budget
    (parts_view (at_position l.initial.at l.initial.classes l.initial.best) l.sizes.kernel)
    (at_position l.at l.classes l.best) l.steps (kinds_said l.kinds)
    × Ready l.sizes.kernel l.at l.classes l.best l.members

abbrev pub decreases-loop-steps : goal.decreases-loop-steps
decreases-loop-steps l = l.budget - l.steps
