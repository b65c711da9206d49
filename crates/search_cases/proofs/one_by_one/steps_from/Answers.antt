-- `one_by_one::steps_from`: one step more keeps what holds at each turn, and at both ends it is the run.
use Rattle.std.proofs.Common.{rules}
use Rattle.moves.specs.FitTable.{kernel_given}
use Rattle.moves.specs.StepKinds.{kind_case}
use Rattle.search.specs.View.{parts_of, view}
use Rattle.search.specs.Laws.Running.{running_more, running_spent, running_finished}
use Rattle.search_cases.specs.Crown.{grants, sizes}
use Rattle.search_cases.proofs.one_by_one.steps_from.Goals as goal

pub loop-steps-preserved : goal.loop-steps-preserved
loop-steps-preserved c =
    let a = c.args in
    let loop = c.loop-steps in
    let step = c.step-stepped in
    rw c.counted-kinds.ensures
    (running_more (kernel_given a.fit.now sizes) a.budget (view a.from grants) loop.invariant
    (parts_of step.result.position) (kind_case step.result.kind) c.loop-steps-test.true (search rules)
    step.ensures.kernel_value step.ensures.position_stands)

pub returns-else-not-position : goal.returns-else-not-position
returns-else-not-position c =
    let a = c.args in
    running_finished (kernel_given a.fit.now sizes) a.budget (view a.from grants) c.loop-steps.invariant (search rules)

pub returns-after-loop-steps : goal.returns-after-loop-steps
returns-after-loop-steps c =
    let a = c.args in
    running_spent (kernel_given a.fit.now sizes) a.budget (view a.from grants) c.loop-steps.invariant
    c.loop-steps-test.false
