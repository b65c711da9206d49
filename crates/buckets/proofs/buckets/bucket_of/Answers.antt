-- `buckets::bucket_of`: a turn goes on from the bucket of the bytes passed, and at the end all are.
use Rattle.std.proofs.Common.{◌≤◌, length, arith, add-one, sym, ◌∙◌, drop_of_length-le}
use Rattle.buckets.specs.Buckets.{bucket_of}
use Rattle.buckets.specs.Laws.Bucket.{bucket_step}
use Rattle.buckets.proofs.buckets.bucket_of.Goals as goal

pub loop-b-preserved : goal.loop-b-preserved
loop-b-preserved c = (
  omega arith,
  rw (c.letter.ensures.0, add-one)
      (sym (bucket_step c.loop-b.h c.args.name.now c.loop-b.b-index c.loop-b-test.true) ∙ c.loop-b.invariant.1),
)

pub returns : goal.returns
unfolding bucket_of
returns c =
    let past : length c.args.name.now ≤ c.loop-b.b-index = omega arith in
    rw (drop_of_length-le c.args.name.now past) at c.loop-b.invariant.1
