-- A line that can be added makes a longer sheet that is accepted. What none of the causes 1, 2, 5, 6, 7 and 9 leaves is
-- what they ask of the whole longer sheet; its first line is the given sheet's (3), there was room for a user (4), and
-- the newcomer's name is no earlier user's (8). Assumes nothing.
use Rattle.std.specs.Prelude.{suc, ◌<◌, ◌≡◌, false, ◌||◌, length, get_or}
use native.Mathlib.Omega.{arith}
use Rattle.std.proofs.Common.{sym, ◌∙◌, ⊎_elim, length-append}
use Rattle.std.proofs.Math.Bool.{So}
use mathlib.Core.List.{List, [], ◌∷◌, ◌++◌, tail}
use borrow.Author.Tests.{leb-false}
use Rattle.std.proofs.lemmas.List.{length-map}
use Rattle.std.proofs.Math.ListN.{get_or-append}
use Rattle.std.proofs.Math.Seq.{get_or-append_seam}
use Rattle.spec.specs.Vocabulary.{empty}
use Rattle.spec.specs.Limits.{user_limit}
use Rattle.spec.specs.Text.{Bytes, Line, same_name, lines_of}
use Rattle.spec.specs.Sheet.{first_field, sheet_of, user_count}
use Rattle.spec.specs.Form.{known}
use Rattle.spec.specs.Refusal.{first_number, bad_bytes, accepted}
use Rattle.spec.specs.Newcomer.{Admission, longer, given_sheet, longer_sheet, feed_before_end, longer_causes}
use Rattle.spec.specs.Newcomer.{name_taken, users_at_limit}
use Rattle.bits.specs.Truth.{not_both, or_fails_left}
use Rattle.bits.specs.Laws.Below.{last_or_below}
use Rattle.lists.specs.TestLaws.{none_elim, member_at}
use Rattle.text.specs.Laws.Lowered.{same_name_intro, NamesApart}
use Rattle.rules.specs.ByteCauses.{short_enough, good_bytes}
use Rattle.rules.specs.LineCauses.{GoodFirstLine, GoodLineCount, even_lines, bit_lines}
use Rattle.rules.specs.NameCauses.{sized_names, DistinctNames, few_grants}
use Rattle.rules.specs.Unrefused.{Unrefused, accepted_unrefused, unrefused_accepted}
use Rattle.longer.specs.OneLine.{added_fields, added_name}
use Rattle.longer.specs.AddedLine.{first_line_same, sheet_with, permissions_same, users_added}
use Rattle.longer.specs.LineAdded.{none_applies, bytes_pass, added_one_line, name_taken_told}

-- a sheet that is accepted, and a line to which none of the longer sheet's causes applies, nor 17, nor 18
pub record Addable (lent : Admission) : Type 0 where
  pub given : So (accepted lent.sheet)
  pub unrefused : first_number (longer_causes lent.sheet lent.line) ≡ 0
  pub new_name : name_taken lent ≡ false
  pub room : users_at_limit lent ≡ false

-- ---- one name more

names_apart_with : (names : List Bytes) (name : Bytes) → NamesApart names → known names name ≡ false
    → NamesApart (names ++ name ∷ [])
names_apart_with names name apart new i j h k =
    let more : length (names ++ name ∷ []) ≡ suc (length names) = length-append names (name ∷ []) ∙ omega arith in
    let earlier : i < length names = omega arith in
    let within : j < suc (length names) = omega arith in
    rw (get_or-append names (name ∷ []) [] i earlier)
    (⊎_elim
    (λ (e : j ≡ length names).
    rw (e, get_or-append_seam names name [] [])
    (λ same. not_both (same_name_intro name (get_or names i []) (sym same))
    (none_elim (same_name name) names new (member_at names i [] earlier))))
    (λ (l : j < length names). rw (get_or-append names (name ∷ []) [] j l) (apart i j h l))
    (last_or_below within))

user_total : (text : Bytes) → user_count (sheet_of text) ≡ length (tail (lines_of text))
unfolding sheet_of
user_total text = length-map (tail (lines_of text)) first_field

module _ (lent : Admission) (a : Addable lent) where
  abbrev text : Bytes
  text = lent.sheet

  abbrev line : Bytes
  line = lent.line

  abbrev fields : Line
  fields = added_fields line

  one_line : lines_of line ≡ fields ∷ []
  one_line = added_one_line lent a.given a.unrefused

  -- ---- the rules of the longer sheet

  first_line_good : GoodFirstLine (lines_of (longer lent))
  first_line_good =
      let first = (accepted_unrefused text a.given).first in
      let same = first_line_same text line fields a.given one_line in
      record {
        says_user = rw same first.says_user;
        some_permission = rw same first.some_permission;
        few_permissions = rw same first.few_permissions;
      }

  line_count_good : GoodLineCount (lines_of (longer lent))
  unfolding users_at_limit
  line_count_good =
      let below = leb-false user_limit (user_count (sheet_of text)) a.room in
      let more = users_added text line fields a.given one_line in
      let total = user_total (longer lent) in
      record { some_user = omega arith; few_users = omega arith }

  name_is_new : known (given_sheet lent).users (added_name line) ≡ false
  name_is_new = sym (name_taken_told lent a.given a.unrefused) ∙ a.new_name

  names_distinct : DistinctNames (longer_sheet lent)
  names_distinct =
      let given = (accepted_unrefused text a.given).distinct in
      record {
        users = rw (sheet_with text line fields a.given one_line)
            (names_apart_with (sheet_of text).users (added_name line) given.users name_is_new);
        permissions = rw (permissions_same text line fields a.given one_line) given.permissions;
      }

  longer_unrefused : Unrefused (longer lent)
  unfolding longer_causes
  longer_unrefused =
      let none = none_applies lent a.given a.unrefused in
      record {
        short = (short_enough (longer lent)).0 none.0;
        bytes = (good_bytes (longer lent)).0 (or_fails_left (bad_bytes (text ++ line)) (empty line)
            (or_fails_left (bad_bytes (text ++ line) || empty line) (feed_before_end line)
            (bytes_pass lent a.given a.unrefused)));
        first = first_line_good;
        count = line_count_good;
        sized = (sized_names (longer_sheet lent)).0 none.1.1.0;
        even = (even_lines (lines_of (longer lent))).0 none.1.1.1.0;
        bits = (bit_lines (lines_of (longer lent))).0 none.1.1.1.1.0;
        distinct = names_distinct;
        few = (few_grants (longer_sheet lent)).0 none.1.1.1.1.1.0;
      }

  pub longer_accepted : So (accepted (longer lent))
  longer_accepted = unrefused_accepted (longer lent) longer_unrefused
