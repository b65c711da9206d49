-- `cursor::read_field`: the place, or the end where it is past that, is where the field starts; the rest is what the
-- two functions called say.
use Rattle.std.proofs.Common.{◌≡◌, arith, length, drop, length-drop}
use Rattle.std.specs.Prelude.{min}
use Rattle.lists.specs.Span.{span_within}
use Rattle.reader.specs.Fields.{field_read}
use Rattle.text.specs.Line.{separator}
use Rattle.reader.proofs.cursor.read_field.Goals as goal

pub overflow_add-result : goal.overflow_add-result
overflow_add-result c =
    omega (
      arith,
      c.field_end-to.ensures,
      span_within separator (drop c.min-from.result c.args.s.now),
      length-drop c.min-from.result c.args.s.now,
    )

pub returns : goal.returns
unfolding field_read
returns c =
    let starts : c.min-from.result ≡ min c.args.at (length c.args.s.now) = omega arith in
    rw (c.ends_line.ensures, c.field_end-to.ensures, starts)
