use Rattle.std.proofs.Common.{◌≡◌, ◌<◌, drop}
use Rattle.buckets.specs.Buckets.{bucket_count, bucket_after}
use Rattle.buckets.proofs.buckets.bucket_of.Given as goal

-- h is the bucket of the bytes passed, so the other bytes lead from it to that of all
abbrev pub invariant-loop-b : goal.invariant-loop-b
invariant-loop-b l = (l.h < bucket_count) × (bucket_after l.h (drop l.b-index l.name) ≡ bucket_after 0 l.name)
