-- `cover::free_in_word`: a walk over the positions of the word, those passed known to fail.
use Rattle.std.proofs.Common.{ℕ, ◌+◌, ◌*◌, Bool, not, List}
use Rattle.bits.specs.Bit.{word_bits}
use Rattle.cell_rows.specs.Rows.{cell}
use Rattle.cells.specs.Laws.FirstAt.{Tried}
use Rattle.cover.proofs.cover.free_in_word.Given as goal

-- the class at a position has no member that lacks the permission
abbrev pub unlacked : List ℕ → ℕ → ℕ → ℕ → Bool
unlacked lacked p j x = not (cell lacked (j * word_bits + x) p)

abbrev pub invariant-loop-x : goal.invariant-loop-x
invariant-loop-x l = Tried l.word (unlacked l.lacked l.permission.0 l.j) l.x-iterator.left
