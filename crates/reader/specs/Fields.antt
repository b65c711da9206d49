-- Reading field after field with a cursor. A field ends at the first comma or line feed; after a comma the line goes
-- on, after a line feed and at the end of the text it does not. The laws follow the bytes up to there, one by one.
-- Assumes nothing.
use Rattle.std.specs.Prelude.{ℕ, ◌+◌, min, not, eqb, length, get_or, drop}
use Rattle.spec.specs.Text.{Bytes, comma}
use Rattle.lists.specs.Span.{span}
use Rattle.text.specs.Line.{separator}
use Rattle.reader.specs.declared.cursor.FieldRead.{FieldRead}

-- the field that starts at a place: where it ends, whether it is the last of its line, and where to go on
unfoldable pub field_from : Bytes → ℕ → FieldRead
field_from text from =
    let to : ℕ = from + span separator (drop from text) in
    record { from = from; to = to; last = not (eqb (get_or text to 0) comma); next = record { at = to + 1 } }

-- the field at a cursor, which past the end of the text stands at the end
unfoldable pub field_read : Bytes → ℕ → FieldRead
unfolding field_from
field_read text at = field_from text (min at (length text))
