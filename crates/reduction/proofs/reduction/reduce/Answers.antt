-- `reduction::reduction::reduce`: a sweep that removes nothing settles the work.
use Rattle.std.proofs.Common.{arith, replicate}
use Rattle.spec.specs.Limits.{grant_limit}
use Rattle.verdict.specs.Laws.ReductionWork.{visited_ready, visited_grows}
use Rattle.reduction.specs.ReductionResult.{shows_ready, settled_reduced}
use Rattle.reduction.specs.Laws.ReductionSettle.{pending_at_first, settling_done, settling_next}
use Rattle.reduction.proofs.reduction.reduce.Goals as goal

pub loop-work-init : goal.loop-work-init
unfolding grant_limit
loop-work-init c =
    record {
      ready = shows_ready c.requires.0;
      pending = λ sheet shown. pending_at_first shown (replicate grant_limit 0) (replicate grant_limit 0);
    }

pub loop-work-smaller : goal.loop-work-smaller
loop-work-smaller c =
    omega (
      arith,
      visited_grows c.sweep.ensures,
      (visited_ready c.loop-work.invariant.ready c.sweep.ensures).room,
    )

pub loop-work-preserved : goal.loop-work-preserved
loop-work-preserved c = settling_next c.loop-work.invariant c.sweep.ensures c.if-work-before.false

pub returns : goal.returns
returns c =
    settled_reduced (settling_done c.loop-work.invariant c.sweep.ensures c.if-work-before.true)
    c.singles-singles.ensures
