-- `body::read_body`: the loop reads the lines one by one (`BodyReading`), and each line starts at a later place than
-- the one before.
use Rattle.std.proofs.Common.{◌-◌, length}
use Rattle.std.specs.Prelude.{suc}
use Rattle.refusal.specs.Laws.Body.{BodyReading}
use Rattle.refusal.proofs.body.read_body.Given as goal

abbrev pub invariant-loop-from : goal.invariant-loop-from
invariant-loop-from l = BodyReading l.s l.at l.width l.body l.from

abbrev pub decreases-loop-from : goal.decreases-loop-from
decreases-loop-from l = suc (length l.s) - l.from
