-- `Position::run`: the run begins with no step made, and each turn makes one step more (`Running`). The loop ends when
-- there is no budget left, or when the cursor is finished.
use Rattle.std.proofs.Common.{arith, rules}
use Rattle.moves.specs.FitTable.{kernel_given}
use Rattle.moves.specs.StepKinds.{kind_case}
use Rattle.moves.specs.Parts.{at_position}
use Rattle.moves.specs.Laws.Moves.{depth_le_limit, class_below_limit}
use Rattle.search.specs.View.{parts_of, view}
use Rattle.search.specs.Laws.Running.{running_none, running_more, running_spent, running_finished}
use Rattle.search.proofs.machine.Position.run.Goals as goal
use Rattle.search.proofs.machine.Position.run.Goals.{then-loop-steps-test+else-not-at, else-loop-steps-test}

pub gathered-members-requires-clause-depth_le_mark_limit :
    goal.gathered-members-requires-clause-depth_le_mark_limit
gathered-members-requires-clause-depth_le_mark_limit c = depth_le_limit c.requires

pub gathered-members-requires-clause-by_index : goal.gathered-members-requires-clause-by_index
gathered-members-requires-clause-by_index c = class_below_limit c.requires

pub loop-steps-init : goal.loop-steps-init
loop-steps-init c =
    let a = c.args in (
      rw c.none-kinds.ensures (running_none (kernel_given a.fit.now a.sizes) a.budget (parts_of a.self) c.requires),
      record { stands = c.requires; classes_sized = search rules; gathered = c.gathered-members.ensures },
    )

pub advanced-step-requires : goal.advanced-step-requires
advanced-step-requires c = c.loop-steps.invariant.1

-- the counts add up to the steps made, so that there is room for one more
pub counted-kinds-requires : goal.counted-kinds-requires
counted-kinds-requires c = omega (arith, c.loop-steps.invariant.0.add_up, c.loop-steps-test.true)

pub loop-steps-preserved : goal.loop-steps-preserved
loop-steps-preserved c =
    let a = c.args in
    let step = c.advanced-step in (
      rw c.counted-kinds.ensures
          (running_more (kernel_given a.fit.now a.sizes) a.budget (view a.self a.sizes.kernel) c.loop-steps.invariant.0
          (at_position step.result.cursor step.new.classes step.new.best) (kind_case step.result.kind)
          c.loop-steps-test.true (search rules) step.ensures.stepped step.ensures.ready.stands),
      step.ensures.ready,
    )

pub returns-clause-kernel_value : goal.returns-clause-kernel_value
returns-clause-kernel_value c =
    let a = c.args in
    let kernel = kernel_given a.fit.now a.sizes in
    let from = view a.self a.sizes.kernel in
    rw c.of-position.ensures
    (elim c.loop-steps-test.branch [
      | then-loop-steps-test+else-not-at w ↦
          running_finished kernel a.budget from c.loop-steps.invariant.0 (search rules)
      | else-loop-steps-test w ↦
          running_spent kernel a.budget from c.loop-steps.invariant.0 w.loop-steps-test.false
    ])

pub returns-clause-position_stands : goal.returns-clause-position_stands
returns-clause-position_stands c = rw c.of-position.ensures c.loop-steps.invariant.0.stands
