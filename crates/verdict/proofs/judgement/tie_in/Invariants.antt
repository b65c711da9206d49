-- `verdict::judgement::tie_in`: the positions of w are the candidates still to be tried.
use Rattle.verdict.specs.NearCells.{Untried}
use Rattle.verdict.proofs.judgement.tie_in.Given as goal

abbrev pub invariant-loop-w : goal.invariant-loop-w
invariant-loop-w l = Untried l.rows l.left l.users l.it.0 l.i l.w

abbrev pub decreases-loop-w : goal.decreases-loop-w
decreases-loop-w l = l.w
