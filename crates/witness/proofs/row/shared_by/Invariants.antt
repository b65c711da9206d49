-- `row::shared_by`: after k words the sum is how many permissions of these words the user holds.
use Rattle.std.proofs.Common.{◌≡◌, ◌*◌, ◌&&◌}
use Rattle.bits.specs.Counting.{count_below}
use Rattle.bits.specs.Bit.{word_bits}
use Rattle.cell_rows.specs.Rows.{cell}
use Rattle.cell_rows.specs.CellPlaces.{marked}
use Rattle.witness.proofs.row.shared_by.Given as goal

abbrev pub invariant-loop-k : goal.invariant-loop-k
invariant-loop-k l = l.n ≡ count_below (l.k * word_bits) (λ p. marked l.row p && cell l.rows l.v.0 p)
