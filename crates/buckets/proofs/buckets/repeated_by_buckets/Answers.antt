-- `buckets::repeated_by_buckets`: the next name is compared with those of its own bucket, and equal names have one
-- bucket.
use Rattle.std.proofs.Common.{arith, add-one, sym, ◌∙◌}
use Rattle.spec.specs.Limits.{user_limit}
use Rattle.buckets.specs.Laws.Bucket.{bucket_below, noted_standing}
use Rattle.buckets.specs.Laws.Repeats.{names_apart}
use Rattle.buckets.specs.Laws.Meet.{none_searched, met_repeats, unmet_searched}
use Rattle.buckets.proofs.buckets.repeated_by_buckets.Goals as goal

pub loop-i-init : goal.loop-i-init
loop-i-init c = none_searched c.args.s.now c.args.places.now

pub meets_bucket-requires : goal.meets_bucket-requires
unfolding user_limit
meets_bucket-requires c = (
  noted_standing c.loop-i.invariant.noted c.requires (omega arith),
  rw c.bucket_of-bucket.ensures (bucket_below c.part_at-name.result.now),
  omega (arith, c.requires.few, c.loop-i-test.true),
)

pub returns-then-meets_bucket : goal.returns-then-meets_bucket
returns-then-meets_bucket c =
    sym (met_repeats c.loop-i.table c.args.s.now c.args.places.now c.loop-i.i c.requires c.loop-i-test.true
    c.loop-i.invariant c.part_at-name.result.now c.part_at-name.ensures c.bucket_of-bucket.result
    (sym c.meets_bucket.ensures ∙ c.if-meets_bucket.true))

pub loop-i-preserved : goal.loop-i-preserved
loop-i-preserved c =
    rw add-one (unmet_searched c.loop-i.table c.args.s.now c.args.places.now c.loop-i.i c.requires c.loop-i-test.true
    c.loop-i.invariant c.part_at-name.result.now c.part_at-name.ensures c.bucket_of-bucket.result
    c.bucket_of-bucket.ensures (sym c.meets_bucket.ensures ∙ c.if-meets_bucket.false) c.with.result c.with.ensures)

pub returns : goal.returns
returns c = names_apart c.args.s.now c.args.places.now c.loop-i-test.false c.loop-i.invariant.apart
