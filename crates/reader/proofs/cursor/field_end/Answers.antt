-- `cursor::field_end`: a separator at i ends the field there, and another byte goes on.
use Rattle.std.proofs.Common.{◌≤◌, length, arith, sym, ◌∙◌, add-one, drop_of_length-le}
use Rattle.lists.specs.Span.{span_drop}
use Rattle.text.specs.Line.{separator}
use Rattle.reader.proofs.cursor.field_end.Goals as goal

pub returns-then-is_separator : goal.returns-then-is_separator
returns-then-is_separator c =
    let stops = sym c.is_separator.ensures ∙ c.if-is_separator.true in
    omega (arith, rw (span_drop separator c.args.s.now c.loop-i.i 0 (omega arith), stops) at c.loop-i.invariant)

pub loop-i-preserved : goal.loop-i-preserved
loop-i-preserved c =
    let goes_on = sym c.is_separator.ensures ∙ c.if-is_separator.false in
    rw add-one
    (omega (arith, rw (span_drop separator c.args.s.now c.loop-i.i 0 (omega arith), goes_on) at c.loop-i.invariant))

pub returns : goal.returns
returns c =
    let s = c.args.s.now in
    let past : length s ≤ c.loop-i.i = omega arith in
    omega (arith, rw (drop_of_length-le s past) at c.loop-i.invariant)
