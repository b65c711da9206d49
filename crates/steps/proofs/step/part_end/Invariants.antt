-- `step::part_end`: no such byte stands from the place up to i.
use Rattle.steps.specs.Ended.{Passed}
use Rattle.steps.proofs.step.part_end.Given as goal

abbrev pub invariant-loop-i : goal.invariant-loop-i
invariant-loop-i l = Passed l.text l.at l.end l.i
