-- Reading the line of names of block 2: `role`, and the permissions of the sheet, each spelled in whatever case.
use Rattle.std.specs.Prelude.{ℕ, ◌≡◌, List, [], ◌++◌, map, Option, Some, None}
use Rattle.std.proofs.Common.{sym, ap, ◌∙◌}
use Rattle.spec.specs.Text.{ascii, Bytes, lowered}
use Rattle.spec.specs.Sheet.{Sheet}
use Rattle.text.specs.Line.{line_end}
use Rattle.text.specs.Laws.Lowered.{lowered_length}
use Rattle.steps.specs.Laws.Aligned.{Aligned, aligned_same, aligned_length, aligned_then}
use Rattle.steps.specs.Stands.{Stands}
use Rattle.steps.specs.Steps.{Misses}
use Rattle.steps.specs.Spelled.{SpelledAt, NotSpelled, ExpectsName}
use Rattle.steps.specs.Laws.Stands.{stands_then}
use Rattle.steps.specs.Laws.Step.{misses_first, misses_second}
use Rattle.book_lines.specs.Lines.{permissions_line}
use Rattle.form.specs.Pieces.{roles_heading}
use Rattle.read_rows.specs.Laws.Respelled.{fields_text, heading_fields, fields_same, LineSpelled, line_spelled}

-- the line of names stands at a place, and the text goes on at the next
pub record HeadingAt (sheet : Sheet) (text : Bytes) (at next : ℕ) : Type 0 where
  pub names : List Bytes
  pub same : map lowered names ≡ map lowered sheet.permissions
  pub reads : Stands text at (roles_heading names) next

-- no such line stands there
abbrev pub NoHeading : Sheet → Bytes → ℕ → Type 0
NoHeading sheet text at =
    (names : List Bytes) → map lowered names ≡ map lowered sheet.permissions → Misses text at (roles_heading names)

-- a step over it
abbrev pub HeadingReads : Sheet → Bytes → ℕ → Option ℕ → Type 0
HeadingReads sheet text at (Some next) = HeadingAt sheet text at next
HeadingReads sheet text at None = NoHeading sheet text at

-- two such lines of equal names
pub headings_aligned : (names others : List Bytes) → map lowered names ≡ map lowered others
    → Aligned (roles_heading names) (roles_heading others)
headings_aligned names others same =
    rw (heading_fields (ascii "role") names, heading_fields (ascii "role") others)
    (aligned_then (aligned_same (ascii "role")) (aligned_length (fields_text names ++ line_end)
    (fields_text others ++ line_end)
    (lowered_length (fields_text names ++ line_end) (fields_text others ++ line_end) (fields_same names others same))))

-- the word is missing
pub no_word : (sheet : Sheet) {text : Bytes} {at : ℕ} → Misses text at (ascii "role") → NoHeading sheet text at
no_word sheet m names same =
    rw (heading_fields (ascii "role") names) (misses_first (fields_text names ++ line_end) m)

-- with the word there, the names decide
module _ (sheet : Sheet) {text : Bytes} {at mid : ℕ} (word : Stands text at (ascii "role") mid) where
  names_there : {next : ℕ} → SpelledAt text mid (permissions_line sheet) next → HeadingAt sheet text at next
  names_there s =
      record {
        names = line.spelled;
        same = line.same;
        reads = rw (heading_fields (ascii "role") line.spelled) (stands_then word (rw line.there at s.reads));
      }
    where
      line : LineSpelled sheet.permissions s.spelled
      line =
          line_spelled sheet.permissions s.spelled
          (s.same ∙ ap lowered (heading_fields [] sheet.permissions))

  names_missing : NotSpelled text mid (permissions_line sheet) → NoHeading sheet text at
  names_missing m names same =
      rw (heading_fields (ascii "role") names)
      (misses_second (fields_text names ++ line_end) word (m (fields_text names ++ line_end)
      (fields_same names sheet.permissions same ∙ sym (ap lowered (heading_fields [] sheet.permissions)))))

  pub names_decide : (r : Option ℕ) → ExpectsName text mid (permissions_line sheet) r → HeadingReads sheet text at r
  names_decide (Some next) s = names_there s
  names_decide None m = names_missing m
