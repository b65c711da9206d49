-- `choice::better_in_word`: the cells at the positions that are left are still to be passed. The lowest is next, and
-- its position is dropped.
use Rattle.witness.specs.WitnessWalk.{word_goes_on, word_ends}
use Rattle.witness.proofs.choice.better_in_word.Goals as goal

pub loop-p-preserved : goal.loop-p-preserved
loop-p-preserved c rows users few inside counted walked =
    let at = c.loop-p in
    let taken = c.in-Some.ensures.steps in
    rw c.better.ensures
    (word_goes_on _ _ _ _ at.it (at.invariant rows users few inside counted walked) taken.lowest taken.dropped few
    inside _ counted)

pub returns : goal.returns
returns c rows users few inside counted walked =
    word_ends _ _ _ _ _ (rw c.in-None.ensures.steps.0 at (c.loop-p.invariant rows users few inside counted walked))
