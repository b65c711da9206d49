-- `verdict::domination::misfit_among`: the positions that are left are those still to be tried.
use Rattle.std.proofs.Common.{◌+◌}
use Rattle.std.specs.Prelude.{not}
use Rattle.verdict.specs.Misfits.{row_fits}
use Rattle.cells.specs.Laws.FirstAt.{Tried}
use Rattle.verdict.proofs.domination.misfit_among.Given as goal

abbrev pub invariant-loop-q : goal.invariant-loop-q
invariant-loop-q l = Tried l.some (λ q. not (row_fits l.rows l.left l.it.0 l.v.0 (l.from + q))) l.q-iterator.left
