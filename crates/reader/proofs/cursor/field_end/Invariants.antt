-- `cursor::field_end`: with no separator from `at` up to i, the field ends as far from i as the first separator from
-- i on stands.
use Rattle.std.proofs.Common.{◌≡◌, ◌+◌, drop}
use Rattle.lists.specs.Span.{span}
use Rattle.text.specs.Line.{separator}
use Rattle.reader.proofs.cursor.field_end.Given as goal

abbrev pub invariant-loop-i : goal.invariant-loop-i
invariant-loop-i l = l.i + span separator (drop l.i l.s) ≡ l.at + span separator (drop l.at l.s)
