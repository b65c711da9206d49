-- `cover::first_best`: the first cells of the array are the kernel's, and without any there is no class.
use Rattle.std.proofs.Common.{take}
use Rattle.spec.specs.Limits.{grant_limit}
use Rattle.cells.specs.Blank.{zeros_blank}
use Rattle.cover.specs.Laws.CoverArray.{none_to_place, placed_of_kernel}
use Rattle.cover.proofs.cover.first_best.Goals as goal

pub returns-then-size-eq0-clause-by_index : goal.returns-then-size-eq0-clause-by_index
returns-then-size-eq0-clause-by_index c users sheet shown e =
    none_to_place sheet _ (rw c.if-size-eq0.true at e)

pub returns-then-size-eq0-clause-blank_from : goal.returns-then-size-eq0-clause-blank_from
unfolding grant_limit
returns-then-size-eq0-clause-blank_from c = zeros_blank _ grant_limit

pub returns-clause-by_index : goal.returns-clause-by_index
returns-clause-by_index c users sheet shown e =
    let grants = c.args.grants in
    placed_of_kernel sheet (take grants.size grants.cells) _ _ e (c.best_of.ensures.by_index users sheet shown e)
