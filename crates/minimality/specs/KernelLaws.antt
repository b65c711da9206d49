-- The kernel is a part of the sheet's grants, in their order: a removal only takes a grant out of the list. So no
-- grant stands twice in it, and grants at different places are different.
use mathlib.Core.List.{Memᴰ}
use Rattle.spec.specs.Sheet.{Sheet, Grant}
use Rattle.spec.specs.Reduction.{kernel}
use Rattle.lists.specs.Distinct.{Distinct}
use Rattle.cells.specs.Laws.Grant.{grant_held}
use Rattle.fit.specs.Laws.Fit.{Held}
use Rattle.cells.specs.Laws.Number.{Different, ordered_different}
use Rattle.reduction.specs.Laws.RemovedGranted.{kernel_granted}
use Rattle.reduction.specs.Laws.KernelOrder.{kernel_ordered}
use Rattle.minimality.specs.Removals.{remaining_distinct, reduction_reached}

pub kernel_held : (sheet : Sheet) {g : Grant} → Memᴰ g (kernel sheet) → Held sheet g
kernel_held sheet {g} m = grant_held sheet (kernel_granted sheet g m)

pub kernel_distinct : (sheet : Sheet) → Distinct (kernel sheet)
unfolding kernel
kernel_distinct sheet = remaining_distinct (reduction_reached sheet)

-- at different places stand different grants
pub kernel_different : (sheet : Sheet) → Different (kernel sheet)
kernel_different sheet = ordered_different (kernel sheet) (kernel_ordered sheet)
