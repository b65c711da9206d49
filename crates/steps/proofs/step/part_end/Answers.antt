-- `step::part_end`: with no such byte up to i, the first one from i on is the first.
use Rattle.steps.specs.Ended.{byte_passed, end_found, no_end}
use Rattle.steps.proofs.step.part_end.Goals as goal

pub returns-then-text-i : goal.returns-then-text-i
returns-then-text-i c = end_found c.loop-i.invariant c.loop-i-test.true c.if-text-i.true

pub loop-i-preserved : goal.loop-i-preserved
loop-i-preserved c = byte_passed c.loop-i.invariant c.loop-i-test.true c.if-text-i.false

pub returns : goal.returns
returns c = no_end c.loop-i.invariant c.loop-i-test.false
