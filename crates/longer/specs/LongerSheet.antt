-- A line that can be added is a name and a cell for each permission, and the longer sheet is the given one with that
-- user last: the causes 6 and 7 ask it of the line, and fields that are `0` or `1` are written as their cells are.
-- Assumes nothing.
use Rattle.std.specs.Prelude.{suc, ◌≡◌, length}
use Rattle.std.proofs.Common.{arith, sym, ap, ◌∙◌}
use Rattle.std.proofs.Math.Bool.{Bool, So, not}
use mathlib.Core.List.{[], ◌∷◌, map, tail}
use borrow.Author.Tests.{eqb-true, not-false}
use Rattle.std.proofs.Math.Dec.{eqb}
use Rattle.std.proofs.lemmas.List.{length-map}
use Rattle.spec.specs.Vocabulary.{all}
use Rattle.spec.specs.Text.{Bytes, Line, line_text, lines_of}
use Rattle.spec.specs.Sheet.{cell_text, is_one, is_bit, permission_count}
use Rattle.spec.specs.Refusal.{uneven_line, accepted}
use Rattle.spec.specs.Newcomer.{Admission, longer, given_sheet, longer_sheet, longer_causes}
use Rattle.spec.specs.Admitted.{with_user}
use Rattle.lists.specs.TestLaws.{all_elim}
use Rattle.lists.specs.TailLaws.{length_tail}
use Rattle.rules.specs.SheetLines.{UserLine, user_line_spelled}
use Rattle.longer.specs.OneLine.{added_fields, added_name, added_row, one_line_written}
use Rattle.longer.specs.AddedLine.{sheet_with}
use Rattle.longer.specs.LineAdded.{none_applies, line_bytes, line_count, added_one_line}
use Rattle.longer.specs.Addable.{Addable, longer_accepted}
use Rattle.longer.specs.AddedCauses.{uneven_line_told, bad_cell_told}

-- the longer sheet: accepted, written as the given sheet and a line of the newcomer's name and cells, and read as the
-- given one with the newcomer as last user
pub record LongerSheet (lent : Admission) : Type 0 where
  pub accepts : So (accepted (longer lent))
  pub one_line : lines_of lent.line ≡ added_fields lent.line ∷ []
  pub line_written : lent.line ≡ line_text (added_name lent.line ∷ map cell_text (added_row lent.line))
  pub longer_is : longer_sheet lent ≡ with_user (given_sheet lent) (added_name lent.line) (added_row lent.line)
  pub a_cell_each : length (added_row lent.line) ≡ permission_count (given_sheet lent)

module _ (lent : Admission) (a : Addable lent) where
  abbrev text : Bytes
  text = lent.sheet

  abbrev line : Bytes
  line = lent.line

  abbrev fields : Line
  fields = added_fields line

  even : length fields ≡ suc (permission_count (given_sheet lent))
  unfolding longer_causes
  even =
      let test : Bool = eqb (length fields) (suc (permission_count (given_sheet lent))) in
      let told : uneven_line (lines_of (longer lent)) ≡ not test =
      uneven_line_told text line fields a.given (added_one_line lent a.given a.unrefused) in
      eqb-true (length fields) (suc (permission_count (given_sheet lent)))
      (not-false test (sym told ∙ (none_applies lent a.given a.unrefused).1.1.1.0))

  bits : So (all is_bit (tail fields))
  unfolding longer_causes
  bits =
      not-false (all is_bit (tail fields))
      (sym (bad_cell_told text line fields a.given (added_one_line lent a.given a.unrefused))
      ∙ (none_applies lent a.given a.unrefused).1.1.1.1.0)

  user_line : UserLine fields
  user_line =
      record { some_field = omega (arith, even); bits = λ field m. all_elim is_bit (tail fields) bits m }

  pub longer_sheet_told : LongerSheet lent
  longer_sheet_told =
      record {
        accepts = longer_accepted lent a;
        one_line = added_one_line lent a.given a.unrefused;
        line_written = one_line_written line (line_count lent a.given a.unrefused)
            (line_bytes lent a.given a.unrefused).ends
            ∙ ap line_text (sym (user_line_spelled fields user_line));
        longer_is = sheet_with text line fields a.given (added_one_line lent a.given a.unrefused);
        a_cell_each = length-map (tail fields) is_one
            ∙ omega (arith, even, length_tail fields user_line.some_field);
      }
