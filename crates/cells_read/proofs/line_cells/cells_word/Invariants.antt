-- `line_cells::cells_word`: the first i cells are read into the word.
use Rattle.cells_read.specs.CellsWord.{CellsIn}
use Rattle.cells_read.proofs.line_cells.cells_word.Given as goal

abbrev pub invariant-loop-i : goal.invariant-loop-i
invariant-loop-i l = CellsIn l.s l.at l.i l.word
