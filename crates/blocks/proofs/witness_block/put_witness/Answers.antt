-- `witness_block::put_witness`: the lines of the cells are written where the line of names ended.
use Rattle.std.proofs.Common.{ℕ, List, ◌≤◌, map, length, sym}
use Rattle.spec.specs.Text.{ascii, Bytes, text_of}
use Rattle.spec.specs.Sheet.{sheet_of}
use Rattle.spec.specs.Book.{witness_line, witness_block}
use Rattle.cell_rows.specs.CellPlaces.{grant_of}
use Rattle.blocks.specs.WitnessText.{cell_lines, witness_parts}
use Rattle.text.specs.Written.{Written, WrittenSoFar, fits_as, room_behind, then_written, written_as}
use Rattle.blocks.proofs.witness_block.put_witness.Goals as goal

abbrev heading : Bytes
heading = ascii "user,permission\n"

behind_heading : (s : Bytes) (cells : List ℕ) {before mid : Bytes} {at : ℕ}
    → length (text_of (witness_block (map (witness_line (sheet_of s)) (map grant_of cells)))) ≤ length before
    → Written heading before mid at
    → WrittenSoFar heading (cell_lines (sheet_of s) cells) before mid at
behind_heading s cells fits w = record { written = w; fits = fits_as (witness_parts (sheet_of s) cells) fits }

pub put_cell_lines-requires-clause-room : goal.put_cell_lines-requires-clause-room
put_cell_lines-requires-clause-room c =
    room_behind
    (behind_heading c.args.s.now c.args.cells.now c.requires.cells_in_bounds c.put_bytes-lines.ensures)

pub returns : goal.returns
returns c =
    written_as (sym (witness_parts (sheet_of c.args.s.now) c.args.cells.now))
    (then_written
    (behind_heading c.args.s.now c.args.cells.now c.requires.cells_in_bounds c.put_bytes-lines.ensures)
    c.put_cell_lines.ensures)
