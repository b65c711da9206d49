-- `counts::take_off_for_users`: the counts of the users at the positions that are left are still as they were. The
-- lowest is next, and its position is dropped.
use Rattle.std.proofs.Common.{◌∙◌, arith}
use Rattle.fit.specs.Laws.ColumnPlaces.{whole_columns}
use Rattle.witness.specs.Laws.CountChange.{still_to_come, change_ends}
use Rattle.witness.specs.Laws.FitCounts.{lowest_to_come, users_go_on, no_users_left}
use Rattle.witness.proofs.counts.take_off_for_users.Goals as goal

pub take_off_for_user-requires : goal.take_off_for_user-requires
take_off_for_user-requires c =
    let a = c.args in
    let at = c.loop-p in
    let low = c.in-Some.ensures.steps.lowest in (
      c.requires.0,
      omega (arith, low.within, c.requires.1, whole_columns),
      at.invariant.done.sized ∙ c.requires.2,
      λ n p.
          let here = lowest_to_come a.left.now a.j at.p-iterator.left low n p in
          rw (still_to_come at.invariant n here) (c.requires.3 n (at.invariant.among n here)),
    )

pub loop-p-preserved : goal.loop-p-preserved
loop-p-preserved c =
    let taken = c.in-Some.ensures.steps in
    users_go_on c.args.left.now _ c.loop-p.invariant taken.lowest taken.dropped c.take_off_for_user.ensures

pub returns : goal.returns
returns c =
    let a = c.args in
    change_ends (rw c.in-None.ensures.steps.0 at c.loop-p.invariant) (no_users_left a.left.now a.j)
