-- `step::expect_byte`: nothing stands past the end, and before it the byte there decides.
use Rattle.std.proofs.Common.{add-one, arith}
use Rattle.steps.specs.Laws.Stands.{stands_byte}
use Rattle.steps.specs.Laws.Step.{misses_byte, misses_at_end}
use Rattle.steps.proofs.step.expect_byte.Goals as goal

pub returns-then-text-at : goal.returns-then-text-at
returns-then-text-at c = misses_at_end _ _ _ _ c.if-text-at.true

pub returns-then-text-at-2 : goal.returns-then-text-at-2
returns-then-text-at-2 c = misses_byte _ _ _ _ (omega arith) c.if-text-at-2.true

pub returns : goal.returns
returns c = rw (add-one c.args.at) (stands_byte _ _ _ (omega arith) c.if-text-at-2.false)
