-- The line that a text starts with, and what follows it. Assumes nothing.
use Rattle.std.specs.Prelude.{suc, eqb, take, drop}
use Rattle.spec.specs.Text.{Bytes, Line, line_feed, fields}
use Rattle.lists.specs.Span.{span}

-- the fields of the line that a text starts with
abbrev pub line_fields : Bytes → Line
line_fields text = fields (take (span (eqb line_feed) text) text)

-- what follows that line
abbrev pub after_line : Bytes → Bytes
after_line text = drop (suc (span (eqb line_feed) text)) text
