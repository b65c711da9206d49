use Rattle.std.proofs.Common.{◌*◌}
use Rattle.bits.specs.Bit.{word_bits}
use Rattle.cells.specs.KernelList.{ListedTo}
use Rattle.cells.proofs.listing.listed.Given as goal

-- the cells of the words passed stand in the array, as far as it has room
abbrev pub invariant-loop-i : goal.invariant-loop-i
invariant-loop-i l = ListedTo l.left (l.i * word_bits) l.cells l.size
