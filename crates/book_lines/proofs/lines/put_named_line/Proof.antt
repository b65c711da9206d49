-- `lines::put_named_line`: the name, the cells behind it, and the line feed behind them.
use borrow.Author.Rules.{rules}
use Prim.Native.Nat.{◌+◌}
use native.Mathlib.Omega.{arith}
use mathlib.Core.List.{◌++◌}
use Rattle.spec.specs.Text.{Bytes}
use Rattle.cell_text.specs.CellsText.{cells_text}
use Rattle.text.specs.Line.{line_end}
use Rattle.book_lines.specs.Laws.LineWritten.{LineRoom, behind_fields, behind_name, name_fits}
use Rattle.text.specs.Written.{WrittenSoFar, byte_same_length, byte_within, place_within, room_behind, then_byte}
use Rattle.text.specs.Written.{with_rest, within_buffer}
use Rattle.book_lines.proofs.lines.put_named_line.Statement.{statement}
use Rattle.book_lines.proofs.lines.put_named_line.Tie as tie

abbrev name : tie.Start → Bytes
name s = s.args.name.now

abbrev fields : tie.Start → Bytes
fields s = cells_text s.args.words.now s.args.row s.args.count

room : (s : tie.Start) → LineRoom (name s) (fields s) s.args.out.now
room s = record { fits = s.requires.1 }

-- the line behind its name, and behind its cells
abbrev start : tie.After-put_bytes-cells → tie.Start
start c = c.before.before.before.before.before

behind_first : (c : tie.After-put_bytes-cells)
    → WrittenSoFar (name (start c)) (fields (start c)) (start c).args.out.now c.put_bytes-cells.new.out
    c.put_bytes-cells.result
behind_first c = behind_name (room (start c)) c.put_bytes-cells.ensures

behind_second : (c : tie.After-put_cells)
    → let a = c.before.before.before.before in
    WrittenSoFar (name (start a) ++ fields (start a)) line_end (start a).args.out.now
    (with_rest a.put_bytes-cells.result a.put_bytes-cells.new.out c.put_cells.new.out)
    (a.put_bytes-cells.result + c.put_cells.result)
behind_second c =
    let a = c.before.before.before.before in
    behind_fields (room (start a)) a.put_bytes-cells.ensures c.put_cells.ensures

pub put_named_line_spec : {M : Type 1} → statement M
put_named_line_spec =
    tie.close (tie.spec (λ c κs. name_fits (room c.before.before.before.before))
    (λ c. within_buffer (behind_first c.before.before)) (λ c. within_buffer (behind_first c.before.before))
    (λ c. search rules)
    (λ c κs. ((start c.before.before.before).requires.0, room_behind (behind_first c.before.before.before)))
    (λ c. omega (arith, place_within (behind_second c.before.before)))
    (λ c. byte_within (behind_second c.before.before))
    (λ c. omega (
      arith,
      byte_within (behind_second c.before.before),
      place_within (behind_second
          c.before.before),
    )) (λ c. byte_same_length (behind_second c.before.before))
    (λ c. then_byte (behind_second c.before.before)))
