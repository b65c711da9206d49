-- `fours::put_fours`: where i fours are written, a turn writes the next four behind them; four by four they are the
-- cells.
use Rattle.std.proofs.Common.{refl, sym}
use Rattle.bits.specs.Bit.{bit}
use Rattle.cell_text.specs.FourCells.{fours_said, four_shifted}
use Rattle.cell_text.specs.Laws.Parts.{listing_ends, listing_starts, part_ready, part_written}
use Rattle.text.specs.Written.{fits_as, room_behind, written_as}
use Rattle.cell_text.proofs.fours.put_fours.Goals as goal

pub loop-i-init : goal.loop-i-init
loop-i-init c =
    listing_starts _ _ (fits_as (sym (fours_said (bit c.args.word) c.args.fours)) c.requires.fours_in_bounds)

pub put_four-at-requires-clause-table_value : goal.put_four-at-requires-clause-table_value
unfolding bit
put_four-at-requires-clause-table_value c = refl

pub put_four-at-requires-clause-word_in_bounds : goal.put_four-at-requires-clause-word_in_bounds
put_four-at-requires-clause-word_in_bounds c =
    fits_as (sym (four_shifted c.args.word c.loop-i.i)) (room_behind (part_ready c.loop-i.invariant c.loop-i-test.true))

pub loop-i-preserved : goal.loop-i-preserved
loop-i-preserved c =
    part_written c.loop-i.invariant c.loop-i-test.true
    (written_as (four_shifted c.args.word c.loop-i.i) c.put_four-at.ensures)

pub returns : goal.returns
returns c =
    written_as (fours_said (bit c.args.word) c.args.fours) (listing_ends c.loop-i.invariant c.loop-i-test.false)
