-- `row::put_cells`: where the cells of the words below k are written, a turn writes those of word k behind them; all
-- words say all cells.
use Rattle.std.proofs.Common.{ap, sym}
use Rattle.cell_rows.specs.Rows.{row_words}
use Rattle.cell_text.specs.CellsText.{word_text}
use Rattle.cell_text.specs.Laws.CellWords.{row_said}
use Rattle.cell_text.specs.Laws.Parts.{listing_ends, listing_starts, part_ready, part_written}
use Rattle.text.specs.Written.{fits_as, room_behind, written_as}
use Rattle.cell_text.proofs.row.put_cells.Goals as goal

pub loop-k-init : goal.loop-k-init
loop-k-init c =
    let a = c.args in
    listing_starts _ _ (fits_as (sym (row_said a.words.now a.row a.count c.requires.count_le_row_bits.0))
    c.requires.count_in_bounds)

pub put_word-at-requires-clause-count_in_bounds : goal.put_word-at-requires-clause-count_in_bounds
unfolding row_words
put_word-at-requires-clause-count_in_bounds c =
    fits_as (ap (word_text _) (sym c.cells_in_word-here.ensures))
    (room_behind (part_ready c.loop-k.invariant c.loop-k-test.true))

pub loop-k-preserved : goal.loop-k-preserved
unfolding row_words
loop-k-preserved c =
    part_written c.loop-k.invariant c.loop-k-test.true (written_as (ap (word_text _) c.cells_in_word-here.ensures)
    c.put_word-at.ensures)

pub returns : goal.returns
unfolding row_words
returns c =
    let a = c.args in
    written_as (row_said a.words.now a.row a.count c.requires.count_le_row_bits.0) (listing_ends c.loop-k.invariant
    c.loop-k-test.false)
