-- `cover::best_of`: the groupings of the cells are those of the kernel, and the one with fewest classes is kept. The
-- grouping by user is not needed, since it never has fewer classes than the grouping by fit.
use Rattle.cover.specs.Laws.CoverArray.{held_cells, best_of_cells}
use Rattle.cover.proofs.cover.best_of.Goals as goal

pub returns-clause-by_index : goal.returns-clause-by_index
returns-clause-by_index c users sheet shown e =
    let cells = c.args.cells.now in
    rw (best_of_cells shown cells e) at
    (c.with_fewer.ensures.placed _ _ _ (c.grouped_by_fit-fit.ensures.placed_or_more (held_cells shown cells e))
    c.grouped_by_permission-permission.ensures.1)
