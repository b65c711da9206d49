-- `lines::put_pair_line`: the user's name, the permission's behind a comma, and the line feed behind them.
use borrow.Author.Rules.{rules}
use Prim.Native.Nat.{◌+◌}
use native.Mathlib.Omega.{arith}
use mathlib.Core.List.{◌++◌}
use Rattle.spec.specs.Text.{Bytes}
use Rattle.text.specs.Line.{behind_comma, line_end}
use Rattle.book_lines.specs.Laws.LineWritten.{LineRoom, behind_fields, behind_name, name_fits}
use Rattle.text.specs.Written.{WrittenSoFar, byte_same_length, byte_within, place_within, room_behind, then_byte}
use Rattle.text.specs.Written.{with_rest, within_buffer}
use Rattle.book_lines.proofs.lines.put_pair_line.Statement.{statement}
use Rattle.book_lines.proofs.lines.put_pair_line.Tie as tie

abbrev name : tie.Start → Bytes
name s = s.args.user.now

abbrev fields : tie.Start → Bytes
fields s = behind_comma s.args.permission.now

room : (s : tie.Start) → LineRoom (name s) (fields s) s.args.out.now
room s = record { fits = s.requires }

-- the line behind its name, and behind its fields
abbrev start : tie.After-put_bytes-field → tie.Start
start c = c.before.before.before.before.before

behind_first : (c : tie.After-put_bytes-field)
    → WrittenSoFar (name (start c)) (fields (start c)) (start c).args.out.now c.put_bytes-field.new.out
    c.put_bytes-field.result
behind_first c = behind_name (room (start c)) c.put_bytes-field.ensures

behind_second : (c : tie.After-put_field)
    → let a = c.before.before.before.before in
    WrittenSoFar (name (start a) ++ fields (start a)) line_end (start a).args.out.now
    (with_rest a.put_bytes-field.result a.put_bytes-field.new.out c.put_field.new.out)
    (a.put_bytes-field.result + c.put_field.result)
behind_second c =
    let a = c.before.before.before.before in
    behind_fields (room (start a)) a.put_bytes-field.ensures c.put_field.ensures

pub put_pair_line_spec : {M : Type 1} → statement M
put_pair_line_spec =
    tie.close (tie.spec (λ c κs. name_fits (room c.before.before.before.before))
    (λ c. within_buffer (behind_first c.before.before)) (λ c. within_buffer (behind_first c.before.before))
    (λ c. search rules) (λ c κs. room_behind (behind_first c.before.before.before))
    (λ c. omega (arith, place_within (behind_second c.before.before)))
    (λ c. byte_within (behind_second c.before.before))
    (λ c. omega (
      arith,
      byte_within (behind_second c.before.before),
      place_within (behind_second
          c.before.before),
    )) (λ c. byte_same_length (behind_second c.before.before))
    (λ c. then_byte (behind_second c.before.before)))
