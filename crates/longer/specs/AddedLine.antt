-- An accepted sheet with a line added says what it said, and one user more. It ends in a line feed, so the line starts
-- a line of its own, behind all others; and it has a first line, so the added one is a user line. Assumes nothing.
use Rattle.std.specs.Prelude.{ℕ, suc, ◌+◌, ◌≤◌, ◌<◌, ◌≡◌, false, eqb, length, get_or}
use Rattle.std.proofs.Common.{not-suc-le-zero, arith, ◌∙◌, length-append}
use Rattle.std.proofs.Math.Path.{ap}
use Rattle.std.proofs.Math.Bool.{So}
use mathlib.Core.List.{List, [], ◌∷◌, ◌++◌, map, tail}
use Rattle.std.proofs.Math.ListN.{get_or-append}
use Rattle.spec.specs.Text.{Bytes, Line, line_feed, fields, lines, lines_of}
use Rattle.spec.specs.Sheet.{first_field, first_line, sheet_of_lines, sheet_of, user_count, user_name, holds}
use Rattle.spec.specs.Sheet.{grants_of_row, grants}
use Rattle.spec.specs.Refusal.{accepted}
use Rattle.spec.specs.Admitted.{with_user}
use Rattle.lists.specs.AppendLaws.{map_append}
use Rattle.lists.specs.CutAppend.{ended_append}
use Rattle.text.specs.Laws.Text.{ends_in_feed}
use Rattle.rules.specs.SheetLines.{cells}
use Rattle.rules.specs.Unrefused.{accepted_unrefused}
use Rattle.rules.specs.AcceptedFacts.{accepted_lawful}
use Rattle.longer.specs.AddedUser.{user_count_with, earlier_name, last_name, earlier_holds, last_holds}
use Rattle.longer.specs.AddedUser.{grants_with}

-- ---- lines

some_line : (read : List Line) → 1 ≤ length (tail read) → 1 ≤ length read
some_line [] h = absurd (not-suc-le-zero h)
some_line (first ∷ others) h = omega arith

-- an accepted sheet has a first line
pub accepted_some_line : (text : Bytes) → So (accepted text) → 1 ≤ length (lines_of text)
accepted_some_line text p = some_line (lines_of text) (accepted_unrefused text p).count.some_user

-- the lines of the sheet, then those that are added
pub lines_added : (text line : Bytes) → So (accepted text) → lines_of (text ++ line) ≡ lines_of text ++ lines_of line
lines_added text line p =
    let ends = ends_in_feed text (accepted_unrefused text p).bytes.ends in
    ap (map fields) (ended_append (eqb line_feed) text line ends)
    ∙ map_append fields (lines text) (lines line)

-- lines with a user line more say the sheet with a user more
sheet_with_line : (read : List Line) (line : Line) → 1 ≤ length read
    → sheet_of_lines (read ++ line ∷ []) ≡ with_user (sheet_of_lines read) (first_field line) (cells line)
unfolding sheet_of_lines
sheet_with_line [] line some = absurd (not-suc-le-zero some)
sheet_with_line (first ∷ others) line some =
    rw (map_append first_field others (line ∷ []), map_append cells others (line ∷ []))

-- ---- one line

module _ (text line : Bytes) (fields : Line) (p : So (accepted text)) (one : lines_of line ≡ fields ∷ []) where
  pub lines_with : lines_of (text ++ line) ≡ lines_of text ++ fields ∷ []
  lines_with = lines_added text line p ∙ ap (λ (more : List Line). lines_of text ++ more) one

  pub first_line_same : first_line (lines_of (text ++ line)) ≡ first_line (lines_of text)
  first_line_same =
      ap first_line lines_with
      ∙ get_or-append (lines_of text) (fields ∷ []) [] 0 (accepted_some_line text p)

  -- the longer sheet is the given one with a user more
  pub sheet_with : sheet_of (text ++ line) ≡ with_user (sheet_of text) (first_field fields) (cells fields)
  unfolding sheet_of
  sheet_with = ap sheet_of_lines lines_with ∙ sheet_with_line (lines_of text) fields (accepted_some_line text p)

  pub permissions_same : (sheet_of (text ++ line)).permissions ≡ (sheet_of text).permissions
  permissions_same = ap (λ sheet. sheet.permissions) sheet_with

  pub users_added : user_count (sheet_of (text ++ line)) ≡ suc (user_count (sheet_of text))
  users_added = ap user_count sheet_with ∙ user_count_with (sheet_of text) (first_field fields) (cells fields)

  -- earlier users keep their names and their cells
  pub names_same : (u : ℕ) → u < user_count (sheet_of text)
      → user_name (sheet_of (text ++ line)) u ≡ user_name (sheet_of text) u
  names_same u h =
      ap (λ sheet. user_name sheet u) sheet_with ∙ earlier_name (sheet_of text) (first_field fields) (cells fields) u h

  pub holds_same : (u q : ℕ) → u < user_count (sheet_of text)
      → holds (sheet_of (text ++ line)) u q ≡ holds (sheet_of text) u q
  holds_same u q h =
      ap (λ sheet. holds sheet u q) sheet_with ∙ earlier_holds (sheet_of text) (first_field fields) (cells fields)
      (accepted_lawful text p).a_row_each u q h

  -- the last user has the name and the cells of the line
  pub newcomer_name : user_name (sheet_of (text ++ line)) (user_count (sheet_of text)) ≡ first_field fields
  newcomer_name =
      ap (λ sheet. user_name sheet (user_count (sheet_of text))) sheet_with
      ∙ last_name (sheet_of text) (first_field fields) (cells fields)

  pub newcomer_holds : (q : ℕ) → holds (sheet_of (text ++ line)) (user_count (sheet_of text)) q
      ≡ get_or (cells fields) q false
  newcomer_holds q =
      ap (λ sheet. holds sheet (user_count (sheet_of text)) q) sheet_with
      ∙ last_holds (sheet_of text) (first_field fields) (cells fields) (accepted_lawful text p).a_row_each q

  -- and the last grants
  pub grants_added : grants (sheet_of (text ++ line))
      ≡ grants (sheet_of text) ++ grants_of_row (user_count (sheet_of text)) 0 (cells fields)
  grants_added =
      ap grants sheet_with ∙ grants_with (sheet_of text) (first_field fields) (cells fields)
      (accepted_lawful text p).a_row_each

  pub grant_count_added : length (grants (sheet_of (text ++ line)))
      ≡ length (grants (sheet_of text)) + length (grants_of_row (user_count (sheet_of text)) 0 (cells fields))
  grant_count_added =
      ap length grants_added
      ∙ length-append (grants (sheet_of text)) (grants_of_row (user_count (sheet_of text)) 0 (cells fields))
