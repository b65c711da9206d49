-- `row_cells::read_cells`: the cells of the words below k have been read, and each takes two bytes.
use Rattle.std.proofs.Common.{◌≡◌, ◌+◌, ◌*◌}
use Rattle.cell_rows.specs.RowWords.{before_word}
use Rattle.cells_read.specs.RowCells.{Reading}
use Rattle.cells_read.proofs.row_cells.read_cells.Given as goal

abbrev pub invariant-loop-k : goal.invariant-loop-k
invariant-loop-k l =
    (l.next ≡ l.at + 2 * before_word l.count l.k) × Reading l.text l.at l.row (before_word l.count l.k) l.fn.rows
    l.rows
