-- `cover::free_in_word`: a walk over the positions of the word, those passed known to fail.
use Rattle.std.proofs.Common.{not, ap}
use Rattle.cells.specs.Laws.FirstAt.{one_tried, all_tried}
use Rattle.cover.proofs.cover.free_in_word.Goals as goal

pub loop-x-preserved : goal.loop-x-preserved
loop-x-preserved c =
    let taken = c.in-Some.ensures.steps in
    one_tried _ _ c.loop-x.invariant taken.lowest (ap not (rw c.is_lacked.ensures at c.if-not-is_lacked.false))
    taken.dropped

pub returns : goal.returns
returns c = all_tried _ _ (rw c.in-None.ensures.steps.0 at c.loop-x.invariant)
