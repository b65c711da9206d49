-- `roles::place_kernel`: after some turns the array has the classes of as many grants of the kernel, the latest in
-- front, since each turn writes the class of the next grant at its cell.
use Rattle.std.proofs.Common.{◌≡◌, ◌+◌, ◌∷◌, ◌++◌, [], length, arith, length-append}
use Rattle.std.proofs.lemmas.Slice.Zip.{zip_turn}
use Rattle.roles.specs.Laws.CellClass.{kernel_grant_written}
use Rattle.roles.proofs.classes.place_kernel.Goals as goal

pub loop-cell-preserved : goal.loop-cell-preserved
loop-cell-preserved c =
    let a = c.args in
    let so_far = c.loop-cell.yielded in
    let turn = zip_turn a.kernel.now a.placed.now so_far _ _ c.next.new.self _ (cc) (cc) c.loop-cell.yielded_by
    (c.in-Some.cell, c.in-Some.number) c.in-Some.is c.next.ensures.steps in
    let one_more : length (so_far ++ (c.in-Some.cell, c.in-Some.number) ∷ []) ≡ length so_far + 1 =
    omega (arith, length-append so_far ((c.in-Some.cell, c.in-Some.number) ∷ [])) in
    rw (one_more, c.from.ensures, turn.2 0, turn.3 0)
    (kernel_grant_written a.kernel.now a.placed.now (length so_far) (c.requires.1.below (length so_far) turn.0)
    c.loop-cell.invariant)
