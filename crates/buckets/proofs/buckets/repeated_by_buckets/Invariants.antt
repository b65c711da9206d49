use Rattle.buckets.specs.Laws.Meet.{Searched}
use Rattle.buckets.proofs.buckets.repeated_by_buckets.Given as goal

-- the names before number i are noted in the table, and no two of them are equal
abbrev pub invariant-loop-i : goal.invariant-loop-i
invariant-loop-i l = Searched l.table l.s l.places l.i
