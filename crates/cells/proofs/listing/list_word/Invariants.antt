-- `cells::listing::list_word`: the positions that are left are the cells still to be put in.
use Rattle.std.proofs.Common.{◌≡◌, ℕ, ◌*◌, List, get_or}
use Rattle.bits.specs.Bit.{word_bits}
use Rattle.cells.specs.KernelList.{ListedTo, WordRest}
use Rattle.cells.proofs.listing.list_word.Given as goal

abbrev pub invariant-loop-p : goal.invariant-loop-p
invariant-loop-p l =
    (left : List ℕ) → get_or left l.i 0 ≡ l.word → ListedTo left (l.i * word_bits) l.fn.cells l.start
    → WordRest left l.i l.p-iterator.left l.cells l.size
