-- `Position::search`: with more kernel grants than are searched the machine makes no step; else a search is a run.
use Rattle.std.proofs.Common.{sym, arith}
use Rattle.spec.specs.Limits.{search_limit}
use Rattle.moves.specs.FitTable.{kernel_given}
use Rattle.search.specs.Laws.Runs.{search_within, search_above}
use Rattle.search.specs.View.{view}
use Rattle.search.proofs.machine.Position.search.Goals as goal

pub returns-then-sizes-gt-KERNEL_LIMIT-clause-kernel_value :
    goal.returns-then-sizes-gt-KERNEL_LIMIT-clause-kernel_value
unfolding search_limit
returns-then-sizes-gt-KERNEL_LIMIT-clause-kernel_value c =
    let a = c.args in
    rw c.none.ensures
    (sym (search_above (kernel_given a.fit.now a.sizes) a.budget (view a.self a.sizes.kernel) (omega arith)))

pub run-requires : goal.run-requires
unfolding search_limit
run-requires c = c.requires (omega arith)

pub returns-clause-kernel_value : goal.returns-clause-kernel_value
unfolding search_limit
returns-clause-kernel_value c =
    let a = c.args in
    rw (search_within (kernel_given a.fit.now a.sizes) a.budget (view a.self a.sizes.kernel) (omega arith))
    c.run.ensures.kernel_value
