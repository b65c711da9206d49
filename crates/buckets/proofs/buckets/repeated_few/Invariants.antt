use Rattle.names.specs.NamesAt.{Apart}
use Rattle.buckets.proofs.buckets.repeated_few.Given as goal

-- no two of the names before number i are equal
abbrev pub invariant-loop-i : goal.invariant-loop-i
invariant-loop-i l = Apart l.s l.places l.i
