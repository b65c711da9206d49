-- `buckets::meets_word`: the lowest position that is left is compared next, and dropped if its name is another.
use Rattle.std.proofs.Common.{sym, ◌∙◌}
use Rattle.buckets.specs.Laws.Meet.{lowest_met, lowest_walked, all_walked}
use Rattle.buckets.proofs.buckets.meets_word.Goals as goal

pub returns-then-same_name : goal.returns-then-same_name
returns-then-same_name c =
    let a = c.args in
    sym (lowest_met a.s.now a.places.now a.word a.first a.name.now
    c.loop-p.p-iterator.left c.loop-p.invariant
    c.in-Some.ensures.steps.lowest
    (rw c.part_at.ensures at (sym c.same_name.ensures ∙ c.if-same_name.true)))

pub loop-p-preserved : goal.loop-p-preserved
loop-p-preserved c =
    let a = c.args in
    let taken = c.in-Some.ensures.steps in
    lowest_walked a.s.now a.places.now a.word a.first a.name.now
    c.loop-p.p-iterator.left c.loop-p.invariant taken.lowest
    (rw c.part_at.ensures at (sym c.same_name.ensures ∙ c.if-same_name.false)) taken.dropped

pub returns : goal.returns
returns c =
    let a = c.args in
    sym (all_walked a.s.now a.places.now a.word a.first a.name.now
    (rw c.in-None.ensures.steps.0 at c.loop-p.invariant))
