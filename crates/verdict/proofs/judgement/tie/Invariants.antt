-- `verdict::judgement::tie`: none of the users before those at word j of the columns has a tie.
use Rattle.std.proofs.Common.{◌*◌}
use Rattle.cell_rows.specs.Rows.{row_bits}
use Rattle.verdict.specs.NearCells.{tie_at}
use Rattle.verdict.specs.Misfits.{users_before}
use Rattle.verdict.specs.ReductionVerdict.{NoneIn}
use Rattle.verdict.proofs.judgement.tie.Given as goal

abbrev pub invariant-loop-j : goal.invariant-loop-j
invariant-loop-j l = NoneIn (tie_at l.rows l.left l.users l.it.0) 0 (users_before l.users l.j * row_bits)
