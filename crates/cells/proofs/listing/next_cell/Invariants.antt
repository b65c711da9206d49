use Rattle.std.proofs.Common.{◌+◌, ◌*◌, ◌<◌, ◌≤◌}
use Rattle.bits.specs.Bit.{word_bits}
use Rattle.bits.specs.Counting.{Skipped}
use Rattle.cell_rows.specs.CellPlaces.{marked}
use Rattle.cells.proofs.listing.next_cell.Given as goal

-- no cell is set before the position in word i from which the walk goes on
abbrev pub invariant-loop-i : goal.invariant-loop-i
invariant-loop-i l = record {
  position : l.start < word_bits;
  not_before : l.fn.from.0 ≤ l.i * word_bits + l.start;
  skipped : Skipped (marked l.words) l.fn.from.0 (l.i * word_bits + l.start);
}
