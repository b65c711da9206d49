-- `fit::column::union_of`: the lowest position that is left is next.
use Rattle.spec.specs.Limits.{user_limit}
use Rattle.fit.specs.Laws.ColumnUnion.{union_starts, union_goes_on, union_ends}
use Rattle.fit.proofs.column.union_of.Goals as goal

pub loop-p-init : goal.loop-p-init
loop-p-init c =
    rw (c.into_iter-p-iterator.ensures.into_iter_gives, c.positions-p-items.ensures)
    (union_starts c.args.columns.now c.args.word c.args.k c.args.j)

pub loop-p-preserved : goal.loop-p-preserved
unfolding user_limit
loop-p-preserved c =
    let a = c.args in
    let taken = c.in-Some.ensures.steps in
    union_goes_on a.columns.now a.word a.k a.j c.loop-p.some taken.lowest taken.dropped c.loop-p.invariant

pub returns : goal.returns
returns c =
    let a = c.args in
    union_ends a.columns.now a.word a.k a.j c.loop-p.some (rw c.in-None.ensures.steps.0 at c.loop-p.invariant)
