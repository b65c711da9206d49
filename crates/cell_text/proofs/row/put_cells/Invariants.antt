use Rattle.cell_rows.specs.Rows.{row_words}
use Rattle.cell_text.specs.Laws.CellWords.{word_part}
use Rattle.cell_text.specs.Laws.Parts.{Listing}
use Rattle.cell_text.proofs.row.put_cells.Given as goal

-- the cells of the words below k are written
abbrev pub invariant-loop-k : goal.invariant-loop-k
invariant-loop-k l = Listing row_words (word_part l.words l.row l.count) l.k l.fn.out l.out l.at
