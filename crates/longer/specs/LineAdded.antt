-- A line to which none of the causes 1, 2, 5, 6, 7 and 9 of the longer sheet applies is one line, with its line feed;
-- it begins with the newcomer's name, and there is room for it. Assumes nothing.
use Rattle.std.specs.Prelude.{◌≤◌, ◌≡◌, refl, false, ◌||◌, not, [], ◌∷◌, ◌++◌, eqb, length}
use Rattle.std.proofs.Common.{sym, ◌∙◌, eqb-true}
use Rattle.std.proofs.Math.Path.{ap}
use Rattle.std.proofs.Math.Bool.{So}
use Rattle.std.proofs.lemmas.Bool.{not-false}
use Rattle.spec.specs.Vocabulary.{empty}
use Rattle.spec.specs.Limits.{sheet_limit}
use Rattle.spec.specs.Text.{Bytes, Line, lines_of}
use Rattle.spec.specs.Form.{known}
use Rattle.spec.specs.Refusal.{first_number, bad_bytes, accepted}
use Rattle.spec.specs.Newcomer.{Admission, longer, given_sheet, feed_before_end, longer_causes, name_taken}
use Rattle.bits.specs.Truth.{or_fails_left, or_fails_right}
use Rattle.rules.specs.CauseLaws.{positive, NoneApplies, zero_none_applies}
use Rattle.rules.specs.ByteCauses.{short_enough, GoodBytes, good_bytes}
use Rattle.longer.specs.OneLine.{added_fields, added_name, one_line_read}
use Rattle.longer.specs.AddedLine.{newcomer_name}
use Rattle.longer.specs.AddedCauses.{bad_bytes_told}

longer_causes_positive : (text line : Bytes) → So (positive (longer_causes text line))
unfolding longer_causes
longer_causes_positive text line = refl

module _ (lent : Admission) (given : So (accepted lent.sheet))
    (unrefused : first_number (longer_causes lent.sheet lent.line) ≡ 0) where
  abbrev text : Bytes
  text = lent.sheet

  abbrev line : Bytes
  line = lent.line

  abbrev fields : Line
  fields = added_fields line

  pub none_applies : NoneApplies (longer_causes text line)
  none_applies = zero_none_applies (longer_causes text line) (longer_causes_positive text line) unrefused

  -- there is room for the line
  pub longer_short : length (longer lent) ≤ sheet_limit
  unfolding longer_causes
  longer_short = (short_enough (longer lent)).0 none_applies.0

  -- cause 2 of the longer sheet, and of the line
  pub bytes_pass : (bad_bytes (text ++ line) || empty line || feed_before_end line) ≡ false
  unfolding longer_causes
  bytes_pass = none_applies.1.0

  line_passes : (bad_bytes line || not (eqb (length (lines_of line)) 1)) ≡ false
  line_passes = sym (bad_bytes_told text line given) ∙ bytes_pass

  pub line_bytes : GoodBytes line
  line_bytes =
      (good_bytes line).0 (or_fails_left (bad_bytes line) (not (eqb (length (lines_of line)) 1)) line_passes)

  pub line_count : length (lines_of line) ≡ 1
  line_count =
      eqb-true (length (lines_of line)) 1 (not-false (eqb (length (lines_of line)) 1)
      (or_fails_right (bad_bytes line) (not (eqb (length (lines_of line)) 1)) line_passes))

  -- it is one line
  pub added_one_line : lines_of line ≡ fields ∷ []
  added_one_line = one_line_read line line_count

  -- the name that is taken or not is the one that the line begins with
  pub name_taken_told : name_taken lent ≡ known (given_sheet lent).users (added_name line)
  unfolding name_taken
  name_taken_told =
      ap (known (given_sheet lent).users) (newcomer_name text line fields given added_one_line)
