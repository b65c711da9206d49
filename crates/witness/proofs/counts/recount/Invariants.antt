-- `counts::recount`: after u users their closed grants are taken off.
use Rattle.witness.specs.Laws.Counts.{Recounting}
use Rattle.witness.proofs.counts.recount.Given as goal

abbrev pub invariant-loop-u : goal.invariant-loop-u
invariant-loop-u l = Recounting l.rows l.left l.rest l.users l.initial.counts l.u l.counts
