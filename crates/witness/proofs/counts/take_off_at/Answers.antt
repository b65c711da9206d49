-- `counts::take_off_at`: the counts at the positions that are left are still to be changed. The lowest is next, and its
-- position is dropped.
use Rattle.std.proofs.Common.{◌+◌, ◌*◌, arith}
use Rattle.spec.specs.Limits.{user_limit}
use Rattle.bits.specs.Bit.{word_bits}
use Rattle.cell_rows.specs.Rows.{row_words}
use Rattle.witness.specs.Laws.CountChange.{still_to_come, change_ends, none_at}
use Rattle.witness.specs.Laws.CountChange.{lowest_at, position_changed}
use Rattle.witness.proofs.counts.take_off_at.Goals as goal

pub overflow_sub-counts : goal.overflow_sub-counts
overflow_sub-counts c =
    let at = c.loop-p in
    let n = c.args.m * word_bits + c.in-Some.p in
    let here = lowest_at c.args.m at.p-iterator.left c.in-Some.ensures.steps.lowest in
    rw (still_to_come at.invariant n here) (c.requires.2 n (at.invariant.among n here))

pub loop-p-preserved : goal.loop-p-preserved
unfolding user_limit row_words
loop-p-preserved c =
    let at = c.loop-p in
    let taken = c.in-Some.ensures.steps in
    position_changed c.args.m at.invariant taken.lowest taken.dropped
    (omega (arith, taken.lowest.within, c.requires.0, c.requires.1, at.invariant.done.sized))

pub returns : goal.returns
returns c = change_ends (rw c.in-None.ensures.steps.0 at c.loop-p.invariant) (none_at _)
