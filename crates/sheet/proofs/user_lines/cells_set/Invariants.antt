-- `user_lines::cells_set`: after k words the sum is how many of the row's cells below k * word_bits are set.
use Rattle.std.proofs.Common.{◌≡◌, ◌*◌}
use Rattle.bits.specs.Bit.{word_bits}
use Rattle.bits.specs.Counting.{count_below}
use Rattle.cell_rows.specs.Rows.{cell}
use Rattle.sheet.proofs.user_lines.cells_set.Given as goal

abbrev pub invariant-loop-k : goal.invariant-loop-k
invariant-loop-k l = l.n ≡ count_below (l.k * word_bits) (cell l.rows l.row)
