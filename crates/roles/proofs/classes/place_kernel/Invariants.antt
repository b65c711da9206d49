-- `roles::place_kernel`: after some turns the array has the classes of as many grants of the kernel, the latest in
-- front, since each turn writes the class of the next grant at its cell.
use Rattle.std.proofs.Common.{length}
use Rattle.roles.specs.CellClasses.{ClassAt, paired_in}
use Rattle.roles.proofs.classes.place_kernel.Given as goal

abbrev pub invariant-loop-cell : goal.invariant-loop-cell
invariant-loop-cell l = ClassAt l.class (paired_in l.kernel l.placed (length l.yielded))
