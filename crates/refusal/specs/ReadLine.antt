-- What reading a line leaves: where its first field ends, what the other fields say, and where the next line starts.
-- Assumes nothing.
use Rattle.std.specs.Prelude.{ℕ, suc, ◌+◌, ◌≤◌, ◌<◌, ◌≡◌, length, drop}
use mathlib.Core.List.{tail}
use Rattle.spec.specs.Text.{Bytes}
use Rattle.spec.specs.Sheet.{first_field}
use Rattle.places.specs.Places.{Part}
use Rattle.refusal.specs.FirstLine.{line_fields, after_line}
use Rattle.refusal.specs.Cells.{cells_of}
use Rattle.refusal.specs.declared.line.LineRead.{LineRead}

-- the line of a text that starts at a place. Each field takes a byte at least, with the separator that ends it, so
-- the place of the next line bounds the counts.
pub record ReadLine (text : Bytes) (at : ℕ) (r : LineRead) : Type 0 where
  pub name : Part text at r.to (first_field (line_fields (drop at text)))
  pub cells : r.cells ≡ cells_of (tail (line_fields (drop at text)))
  pub after : after_line (drop at text) ≡ drop r.next text
  pub within : r.next ≤ suc (length text)
  pub count_small : at + r.cells.count < r.next
  pub ones_small : r.cells.ones ≤ r.cells.count
