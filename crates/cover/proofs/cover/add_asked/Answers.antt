-- `cover::add_asked`: the position of a class and a permission is that of their cell.
use Rattle.cell_rows.specs.Rows.{row_words, row_bits}
use Rattle.cell_rows.specs.Laws.PositionSet.{cell_added}
use Rattle.cover.proofs.cover.add_asked.Goals as goal

pub returns : goal.returns
unfolding row_bits row_words
returns c = cell_added _ _ c.args.c c.args.permission.0 c.requires.c_lt_row_bits.1 c.mark.ensures
