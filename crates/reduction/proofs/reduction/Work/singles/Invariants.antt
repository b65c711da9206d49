-- `reduction::reduction::Work::singles`: after i entries the sum is the singles among them.
use Rattle.std.proofs.Common.{◌≡◌, ◌≤◌}
use Rattle.reduction.specs.Laws.ReductionLog.{single_count}
use Rattle.reduction.proofs.reduction.Work.singles.Given as goal

abbrev pub invariant-loop-i : goal.invariant-loop-i
invariant-loop-i l = (l.singles ≤ l.i) × (l.singles ≡ single_count l.self.removed l.self.partner l.i)
