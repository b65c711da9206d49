-- `first::first_counts`: after v users the counts are those of their grants.
use Rattle.witness.specs.Laws.FirstCounts.{Gathered}
use Rattle.witness.proofs.first.first_counts.Given as goal

abbrev pub invariant-loop-v : goal.invariant-loop-v
invariant-loop-v l = Gathered l.rows l.left l.users l.v l.counts
