-- `verdict::domination::misfit`: none of the users before those at word j of the column is a misfit.
use Rattle.verdict.specs.Laws.MisfitWalk.{NoMisfitBefore}
use Rattle.verdict.proofs.domination.misfit.Given as goal

abbrev pub invariant-loop-j : goal.invariant-loop-j
invariant-loop-j l = NoMisfitBefore l.rows l.left l.users l.it.0 l.other.0 l.j
