-- `reduction::reduction::Work::singles`: each entry is one single more, or none.
use Rattle.std.proofs.Common.{arith}
use Rattle.reduction.specs.Laws.ReductionLog.{one_single_more, no_single_more}
use Rattle.reduction.proofs.reduction.Work.singles.Goals as goal
use Rattle.reduction.proofs.reduction.Work.singles.Goals.{then-self-i, else-self-i}

pub loop-i-preserved : goal.loop-i-preserved
loop-i-preserved c =
    let a = c.args.self.now in
    elim c.if-self-i.branch [
      | then-self-i w ↦ (
        omega (arith, w.singles-is),
        omega (arith, w.singles-is, one_single_more a.removed a.partner c.loop-i.i w.if-self-i.true),
      )
      | else-self-i w ↦ (
        omega (arith, w.singles-is),
        omega (arith, w.singles-is, no_single_more a.removed a.partner c.loop-i.i w.if-self-i.false),
      )
    ]
