-- When bytes are one line: there are some, and no line feed stands anywhere but at their end. Byte by byte, a line feed
-- ends a line, so one before the end leaves a second line behind it. One line that ends in a line feed is written as
-- its fields are. Assumes nothing.
use Rattle.std.specs.Prelude.{ℕ, suc, ◌≤◌, ◌≡◌, refl, Bool, true, false, ◌||◌, not, List, [], ◌∷◌, eqb, length}
use Rattle.std.proofs.Common.{not-suc-le-zero, arith, sym, ap, ◌∙◌, append-nil, ne_eqb}
use Rattle.std.proofs.lemmas.List.{length-map}
use Rattle.spec.specs.Vocabulary.{empty, cut}
use Rattle.spec.specs.Text.{Bytes, Line, line_feed, last_byte, fields, lines, lines_of, line_text, text_of}
use Rattle.spec.specs.Sheet.{first_field, first_line}
use Rattle.spec.specs.Newcomer.{feed_before_end}
use Rattle.bits.specs.Truth.{eqb_comm}
use Rattle.lists.specs.CutLaws.{ended_some}
use Rattle.text.specs.Laws.Text.{written_as_read_to_feed}
use Rattle.rules.specs.SheetLines.{cells}

-- the one line of some bytes; the name and the cells that it says
abbrev pub added_fields : Bytes → Line
added_fields line = first_line (lines_of line)

abbrev pub added_name : Bytes → Bytes
added_name line = first_field (added_fields line)

abbrev pub added_row : Bytes → List Bool
added_row line = cells (added_fields line)

-- ---- the test

cut_feed : (feed : Bool) (b : ℕ) (parts : List Bytes) → 1 ≤ length parts
    → (feed || not (eqb (length parts) 1)) ≡ not (eqb (length (cut feed b parts)) 1)
cut_feed feed b [] some = absurd (not-suc-le-zero some)
cut_feed true b (part ∷ later) some =
    sym (ap not (ne_eqb (suc (suc (length later))) 1 (λ e. omega arith)))
cut_feed false b (part ∷ later) some = refl

cut_one : (feed : Bool) (b : ℕ) → false ≡ not (eqb (length (cut feed b [])) 1)
cut_one true b = refl
cut_one false b = refl

feed_before_end_told : (b : ℕ) (rest : Bytes) → feed_before_end (b ∷ rest) ≡ not (eqb (length (lines (b ∷ rest))) 1)
feed_before_end_told b [] = cut_one (eqb line_feed b) b
feed_before_end_told b (next ∷ rest) =
    rw (feed_before_end_told next rest, eqb_comm b line_feed)
    (cut_feed (eqb line_feed b) b (lines (next ∷ rest)) (ended_some (eqb line_feed) next rest))

-- bytes are no line or have a line feed before the end exactly where they are not one line
pub not_one_line : (line : Bytes) → (empty line || feed_before_end line) ≡ not (eqb (length (lines_of line)) 1)
not_one_line line = told line ∙ rw (length-map (lines line) fields)
  where
    told : (bytes : Bytes) → (empty bytes || feed_before_end bytes) ≡ not (eqb (length (lines bytes)) 1)
    told [] = refl
    told (b ∷ rest) = feed_before_end_told b rest

-- ---- the line

only_element : (read : List Line) → length read ≡ 1 → read ≡ first_line read ∷ []
only_element [] e = absurd (omega arith)
only_element (line ∷ []) e = refl
only_element (line ∷ next ∷ later) e = absurd (omega arith)

-- one line is read as its fields
pub one_line_read : (line : Bytes) → length (lines_of line) ≡ 1 → lines_of line ≡ added_fields line ∷ []
one_line_read line e = only_element (lines_of line) e

-- and, where a line feed ends it, written as they are
pub one_line_written : (line : Bytes) → length (lines_of line) ≡ 1 → last_byte line ≡ line_feed
    → line ≡ line_text (added_fields line)
one_line_written line e ends =
    sym (written_as_read_to_feed line ends) ∙ ap text_of (one_line_read line e)
    ∙ append-nil (line_text (added_fields line))
