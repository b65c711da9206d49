-- `buckets::repeated_few`: the next name is compared with all before it.
use Rattle.std.proofs.Common.{arith, add-one, sym, ◌∙◌}
use Rattle.buckets.specs.Laws.Repeats.{names_apart}
use Rattle.buckets.specs.Laws.Meet.{met_few, unmet_few}
use Rattle.buckets.proofs.buckets.repeated_few.Goals as goal

pub returns-then-meets_word : goal.returns-then-meets_word
returns-then-meets_word c =
    sym (met_few c.args.s.now c.args.places.now c.loop-i.i c.full.result c.loop-i-test.true c.full.ensures
    c.part_at-name.result.now c.part_at-name.ensures (sym c.meets_word.ensures ∙ c.if-meets_word.true))

pub loop-i-preserved : goal.loop-i-preserved
loop-i-preserved c =
    rw add-one (unmet_few c.args.s.now c.args.places.now c.loop-i.i c.full.result c.loop-i-test.true c.full.ensures
    c.part_at-name.result.now c.part_at-name.ensures (omega arith) c.loop-i.invariant
    (sym c.meets_word.ensures ∙ c.if-meets_word.false))

pub returns : goal.returns
returns c = names_apart c.args.s.now c.args.places.now c.loop-i-test.false c.loop-i.invariant
