-- `one_by_one::as_the_search`: a kernel of twelve grants is searched by a run, and so are the steps one by one.
use Rattle.std.proofs.Common.{◌≤◌, sym, ◌∙◌, arith}
use Rattle.spec.specs.Limits.{search_limit}
use Rattle.search.specs.Laws.Runs.{search_within}
use Rattle.moves.specs.FitTable.{kernel_given}
use Rattle.search.specs.View.{view}
use Rattle.search_cases.specs.Crown.{grants, sizes}
use Rattle.search_cases.proofs.one_by_one.as_the_search.Goals as goal

pub returns : goal.returns
unfolding search_limit
returns c =
    let a = c.args in
    let kernel = kernel_given a.fit.now sizes in
    let few : grants ≤ search_limit = omega arith in
    c.same.ensures.when
    (c.search-searched.ensures.kernel_value ∙ search_within kernel a.budget (view a.from grants) few
    ∙ sym c.steps_from.ensures)
