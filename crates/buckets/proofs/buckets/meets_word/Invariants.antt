-- `buckets::meets_word`: the positions that are left are those still to be compared, and the ones before were not met.
use Rattle.buckets.specs.Laws.Meet.{Walked}
use Rattle.buckets.proofs.buckets.meets_word.Given as goal

abbrev pub invariant-loop-p : goal.invariant-loop-p
invariant-loop-p l = Walked l.s l.places l.word l.first l.name l.p-iterator.left
