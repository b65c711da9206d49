-- `verdict::judgement::tie`: the first tie that is found is the lowest.
use Rattle.std.proofs.Common.{arith, ◌≡◌, zero-le}
use Rattle.cell_rows.specs.Laws.Width.{rows_cells}
use Rattle.verdict.specs.Misfits.{users_before}
use Rattle.verdict.specs.Laws.NearTie.{none_then_none, none_then_lowest, lowest_with_more, found_in, none_found}
use Rattle.verdict.specs.Laws.TieWalk.{before_within}
use Rattle.verdict.proofs.judgement.tie.Goals as goal

pub returns-then-is_some : goal.returns-then-is_some
returns-then-is_some c =
    found_in c.tie_among-found.result (cc) c.tie_among-found.ensures
    (λ n low. lowest_with_more (before_within _ _) (none_then_lowest zero-le c.loop-j.invariant low))

pub loop-j-preserved : goal.loop-j-preserved
loop-j-preserved c =
    none_then_none c.loop-j.invariant
    (none_found c.tie_among-found.result (cc) c.tie_among-found.ensures)

pub returns : goal.returns
returns c =
    let end : users_before c.args.users c.loop-j.j ≡ c.args.users = omega arith in
    rw (end, rows_cells c.args.users) at c.loop-j.invariant
