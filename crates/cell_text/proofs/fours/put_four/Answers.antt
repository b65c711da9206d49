-- `fours::put_four`: the four lowest digits of the word say where its four cells stand in the table.
use Rattle.std.proofs.Common.{arith, sym, ap, length}
use Rattle.cell_text.specs.FourCells.{four_part, fours_length}
use Rattle.text.specs.Written.{fits_as, written_as}
use Rattle.cell_text.proofs.fours.put_four.Goals as goal

pub slice_bounds-put_bytes-end : goal.slice_bounds-put_bytes-end
slice_bounds-put_bytes-end c = omega (arith, ap length c.requires.table_value, fours_length)

pub put_bytes-requires : goal.put_bytes-requires
put_bytes-requires c = fits_as (sym (four_part c.args.word c.requires.table_value)) c.requires.word_in_bounds

pub returns : goal.returns
returns c = written_as (four_part c.args.word c.requires.table_value) c.put_bytes.ensures
