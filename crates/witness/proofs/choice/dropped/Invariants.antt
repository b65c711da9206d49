-- `choice::dropped`: a word of left without the fitting word of the grant has the cells of left that do not fit it.
use Rattle.std.proofs.Common.{◌≡◌, length}
use Rattle.cell_rows.specs.CellPlaces.{cell_words}
use Rattle.cells.specs.Laws.MadeCells.{MadeWords}
use Rattle.witness.specs.WitnessCells.{left_over}
use Rattle.witness.proofs.choice.dropped.Given as goal

abbrev pub invariant-loop-i : goal.invariant-loop-i
invariant-loop-i l = (length l.words ≡ cell_words) × MadeWords (left_over l.rows l.left l.it.0) l.i l.words
