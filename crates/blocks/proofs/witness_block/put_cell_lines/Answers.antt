-- `witness_block::put_cell_lines`: a turn writes the line of its cell behind those before it, from the names of the
-- cell's user and permission.
use Rattle.std.proofs.Common.{◌≡◌, get_or, sym}
use Rattle.spec.specs.Sheet.{sheet_of}
use Rattle.cell_text.specs.Laws.Parts.{part_ready, part_written}
use Rattle.book_lines.specs.Lines.{pair_line}
use Rattle.text.specs.Written.{fits_as, room_behind, written_as}
use Rattle.blocks.specs.WitnessText.{cell_line, cell_said}
use Rattle.blocks.proofs.witness_block.put_cell_lines.Goals as goal

pub put_pair_line-at-requires : goal.put_pair_line-at-requires
put_pair_line-at-requires c =
    let sheet = sheet_of c.args.s.now in
    let said : pair_line c.user_name_in-name.result.now c.permission_name_in-held.result.now ≡ cell_line sheet
    (get_or c.args.cells.now c.loop-number.number-index 0) =
    rw (sym c.from.ensures) (cell_said sheet c.from.result c.user_of.ensures c.permission_of.ensures
    c.user_name_in-name.ensures c.permission_name_in-held.ensures) in
    fits_as (sym said) (room_behind (part_ready c.loop-number.invariant c.loop-number-test.true))

pub loop-number-preserved : goal.loop-number-preserved
loop-number-preserved c =
    let sheet = sheet_of c.args.s.now in
    let said : pair_line c.user_name_in-name.result.now c.permission_name_in-held.result.now ≡ cell_line sheet
    (get_or c.args.cells.now c.loop-number.number-index 0) =
    rw (sym c.from.ensures) (cell_said sheet c.from.result c.user_of.ensures c.permission_of.ensures
    c.user_name_in-name.ensures c.permission_name_in-held.ensures) in
    part_written c.loop-number.invariant c.loop-number-test.true (written_as said c.put_pair_line-at.ensures)
