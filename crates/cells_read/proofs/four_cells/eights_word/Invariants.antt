-- `four_cells::eights_word`: the first i times eight cells are read into the word.
use Rattle.std.proofs.Common.{◌*◌}
use Rattle.cells_read.specs.CellsWord.{CellsIn}
use Rattle.cells_read.proofs.four_cells.eights_word.Given as goal

abbrev pub invariant-loop-i : goal.invariant-loop-i
invariant-loop-i l = CellsIn l.s l.at (8 * l.i) l.word
