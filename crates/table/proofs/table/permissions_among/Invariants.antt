-- `table::permissions_among`: after i turns the row has the permissions of the first i cells.
use Rattle.std.proofs.Common.{◌≡◌, ℕ, ◌%◌, eqb, length, get_or}
use Rattle.bits.specs.Counting.{some_below}
use Rattle.cell_rows.specs.Rows.{row_words, row_bits}
use Rattle.cell_rows.specs.CellPlaces.{marked}
use Rattle.table.proofs.table.permissions_among.Given as goal

abbrev pub invariant-loop-at : goal.invariant-loop-at
invariant-loop-at l =
    (length l.row ≡ row_words)
    × ((p : ℕ) → marked l.row p ≡ some_below l.at-index (λ j. eqb p (get_or l.cells j 0 % row_bits)))
