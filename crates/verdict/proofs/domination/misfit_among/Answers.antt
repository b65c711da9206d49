-- `verdict::domination::misfit_among`: the lowest position that is left is tried next.
use Rattle.std.proofs.Common.{refl, sym, ◌∙◌}
use Rattle.cells.specs.Laws.FirstAt.{none_tried, lowest_passes, one_tried, all_tried}
use Rattle.verdict.proofs.domination.misfit_among.Goals as goal

pub loop-q-init : goal.loop-q-init
loop-q-init c =
    rw (c.into_iter-q-iterator.ensures.into_iter_gives, c.positions-q-items.ensures) (none_tried _ _)

pub returns-then-not-row_fits : goal.returns-then-not-row_fits
returns-then-not-row_fits c =
    lowest_passes _ _ c.loop-q.invariant c.in-Some.ensures.steps.lowest
    (rw (sym c.row_fits.ensures ∙ c.if-not-row_fits.true) refl)

pub loop-q-preserved : goal.loop-q-preserved
loop-q-preserved c =
    let taken = c.in-Some.ensures.steps in
    one_tried _ _ c.loop-q.invariant taken.lowest (rw (sym c.row_fits.ensures ∙ c.if-not-row_fits.false) refl)
    taken.dropped

pub returns : goal.returns
returns c = all_tried _ _ (rw c.in-None.ensures.steps.0 at c.loop-q.invariant)
