use Rattle.std.proofs.Common.{◌≡◌, false}
use Rattle.buckets.specs.Buckets.{meets_bucket}
use Rattle.buckets.proofs.buckets.meets_bucket.Given as goal

-- no name is met in the words before k
abbrev pub invariant-loop-k : goal.invariant-loop-k
invariant-loop-k l = meets_bucket l.s l.places l.table l.bucket l.k l.name ≡ false
