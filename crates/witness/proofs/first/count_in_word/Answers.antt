-- `first::count_in_word`: the counts at the positions that are left are still to be put in. The lowest is next, and its
-- position is dropped.
use Rattle.std.proofs.Common.{◌+◌, ◌*◌, sym, ap, ◌∙◌, arith}
use Rattle.spec.specs.Limits.{user_limit}
use Rattle.cell_rows.specs.Rows.{row_words, row_bits}
use Rattle.witness.specs.FirstCounts.{gathered}
use Rattle.witness.specs.Laws.CountChange.{change_ends, none_at, position_changed}
use Rattle.witness.specs.Laws.FirstCounts.{permission_of_position}
use Rattle.witness.proofs.first.count_in_word.Goals as goal

pub sum_in_column-sum-requires : goal.sum_in_column-sum-requires
unfolding row_bits row_words
sum_in_column-sum-requires c = (omega (arith, c.in-Some.ensures.steps.lowest.within, c.requires.1), c.requires.3)

pub loop-q-preserved : goal.loop-q-preserved
unfolding user_limit row_words
loop-q-preserved c =
    let a = c.args in
    let at = c.loop-q in
    let taken = c.in-Some.ensures.steps in
    let low = taken.lowest in
    rw (c.sum_in_column-sum.ensures ∙ ap (gathered a.columns.now a.shares.now)
    (sym (permission_of_position a.v.0 a.k c.in-Some.q c.requires.1 low.within)))
    (position_changed (a.v.0 * row_words + a.k) at.invariant low taken.dropped
    (omega (arith, low.within, c.requires.0, c.requires.1, c.requires.2, at.invariant.done.sized)))

pub returns : goal.returns
returns c = change_ends (rw c.in-None.ensures.steps.0 at c.loop-q.invariant) (none_at _)
