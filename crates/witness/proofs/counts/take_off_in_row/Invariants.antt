-- `counts::take_off_in_row`: the words of the row are passed one after the other. The counts at the positions of the
-- words still to come are as they were.
use Rattle.witness.specs.CountChange.{TakenOff}
use Rattle.witness.specs.Laws.FitCounts.{in_row_below}
use Rattle.witness.proofs.counts.take_off_in_row.Given as goal

abbrev pub invariant-loop-k : goal.invariant-loop-k
invariant-loop-k l = TakenOff (in_row_below l.v.0 l.own l.k) (λ n. l.by) l.initial.counts l.counts
