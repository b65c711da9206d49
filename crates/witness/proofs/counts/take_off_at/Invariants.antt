-- `counts::take_off_at`: the counts at the positions that are left are still to be changed.
use Rattle.std.proofs.Common.{◌-◌}
use Rattle.witness.specs.CountChange.{at_position}
use Rattle.witness.specs.Laws.CountChange.{Changing}
use Rattle.witness.proofs.counts.take_off_at.Given as goal

abbrev pub invariant-loop-p : goal.invariant-loop-p
invariant-loop-p l = Changing (at_position l.m l.some) (at_position l.m l.p-iterator.left) (λ n count. count - l.by) l.initial.counts l.counts
