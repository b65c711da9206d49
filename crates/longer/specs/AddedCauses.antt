-- The causes of a longer sheet, each by the line and a count of the given sheet: none of them applies to the accepted
-- sheet, so the line decides whether it applies to both together. What is asked of all elements of a list is asked of
-- the last one, where the others pass. Assumes nothing.
use Rattle.std.specs.Prelude.{suc, ◌+◌, ◌≤◌, ◌≡◌, refl, Bool, true, false, ◌&&◌, ◌||◌, not, eqb, ltb, length}
use Rattle.std.proofs.Common.{not-suc-le-zero, arith, sym, ◌∙◌, length-append}
use Rattle.std.proofs.Math.Path.{ap}
use Rattle.std.proofs.Math.Bool.{So, and-true, or-false, or-true}
use mathlib.Core.List.{List, [], ◌∷◌, ◌++◌, tail}
use Rattle.std.proofs.lemmas.Bool.{not-false}
use Rattle.spec.specs.Vocabulary.{empty, all}
use Rattle.spec.specs.Limits.{sheet_limit, grant_limit}
use Rattle.spec.specs.Text.{Bytes, Line, allowed_byte, lines_of}
use Rattle.spec.specs.Sheet.{Sheet, first_field, first_line, is_bit, sheet_of, user_count, permission_count}
use Rattle.spec.specs.Sheet.{grants_of_row, grants}
use Rattle.spec.specs.Refusal.{too_long, bad_bytes, has_name_length, bad_name, uneven_line, bad_cell, too_many_grants}
use Rattle.spec.specs.Refusal.{accepted}
use Rattle.spec.specs.Newcomer.{feed_before_end}
use Rattle.spec.specs.Admitted.{with_user}
use Rattle.bits.specs.Truth.{and_left, and_right}
use Rattle.lists.specs.AppendLaws.{all_append}
use Rattle.lists.specs.TestLaws.{all_intro}
use Rattle.lists.specs.TailLaws.{length_tail}
use Rattle.text.specs.Laws.TextBytes.{some_after, last_after}
use Rattle.rules.specs.SheetLines.{cells}
use Rattle.rules.specs.ByteCauses.{GoodBytes}
use Rattle.rules.specs.LineCauses.{even_lines, bit_lines}
use Rattle.rules.specs.NameCauses.{sized_names}
use Rattle.rules.specs.Unrefused.{accepted_unrefused}
use Rattle.longer.specs.OneLine.{not_one_line}
use Rattle.longer.specs.AddedLine.{accepted_some_line, lines_with, sheet_with, grant_count_added}

-- ---- 1 and 2

pub too_long_told : (text line : Bytes) → too_long (text ++ line) ≡ ltb sheet_limit (length text + length line)
unfolding too_long
too_long_told text line = ap (ltb sheet_limit) (length-append text line)

bad_bytes_behind : (text line : Bytes) → GoodBytes text → empty line ≡ false → bad_bytes (text ++ line) ≡ bad_bytes line
unfolding bad_bytes
bad_bytes_behind text line good some =
    rw (
      some_after text line good.some_byte,
      last_after text line some,
      all_append allowed_byte text line,
      all_intro allowed_byte text good.allowed,
      some,
    )

no_line_bad : bad_bytes [] ≡ true
unfolding bad_bytes
no_line_bad = refl

pub bad_bytes_told : (text line : Bytes) → So (accepted text)
    → (bad_bytes (text ++ line) || empty line || feed_before_end line)
    ≡ (bad_bytes line || not (eqb (length (lines_of line)) 1))
bad_bytes_told text [] p = rw (or-true (bad_bytes (text ++ [])), no_line_bad)
bad_bytes_told text (b ∷ rest) p =
    rw (
      bad_bytes_behind text (b ∷ rest) (accepted_unrefused text p).bytes refl,
      or-false (bad_bytes (b ∷ rest)),
      not_one_line (b ∷ rest),
    )

-- ---- one element more

all_with : {A : Type 0} (test : A → Bool) (l : List A) (a : A) → So (all test l) → all test (l ++ a ∷ []) ≡ test a
all_with test l a e = all_append test l (a ∷ []) ∙ rw (e, and-true (test a))

bad_name_with : (sheet : Sheet) (name : Bytes) (row : List Bool) → bad_name sheet ≡ false
    → bad_name (with_user sheet name row) ≡ not (has_name_length name)
unfolding bad_name
bad_name_with sheet name row e =
    let front : Bool = all has_name_length sheet.permissions in
    let back : Bool = all has_name_length sheet.users in
    let both : So (front && back) = not-false (front && back) e in
    rw (and_left front back both, all_with has_name_length sheet.users name (and_right front back both))

uneven_with : (read : List Line) (line : Line) → 1 ≤ length read → uneven_line read ≡ false
    → uneven_line (read ++ line ∷ []) ≡ not (eqb (length line) (length (first_line read)))
unfolding uneven_line
uneven_with [] line some e = absurd (not-suc-le-zero some)
uneven_with (first ∷ others) line some e =
    ap not (all_with (λ next. eqb (length next) (length first)) others line
    (not-false (all (λ next. eqb (length next) (length first)) others) e))

bad_cell_with : (read : List Line) (line : Line) → 1 ≤ length read → bad_cell read ≡ false
    → bad_cell (read ++ line ∷ []) ≡ not (all is_bit (tail line))
unfolding bad_cell
bad_cell_with [] line some e = absurd (not-suc-le-zero some)
bad_cell_with (first ∷ others) line some e =
    ap not (all_with (λ next. all is_bit (tail next)) others line
    (not-false (all (λ next. all is_bit (tail next)) others) e))

-- ---- 5, 6, 7 and 9

-- the first line of an accepted sheet is one field longer than there are permissions
pub first_line_length : (text : Bytes) → So (accepted text)
    → length (first_line (lines_of text)) ≡ suc (permission_count (sheet_of text))
unfolding sheet_of
first_line_length text p =
    let first = (accepted_unrefused text p).first in
    sym (length_tail (first_line (lines_of text)) (omega (arith, first.some_permission)))

module _ (text line : Bytes) (fields : Line) (p : So (accepted text)) (one : lines_of line ≡ fields ∷ []) where
  pub bad_name_told : bad_name (sheet_of (text ++ line)) ≡ not (has_name_length (first_field fields))
  bad_name_told =
      ap bad_name (sheet_with text line fields p one)
      ∙ bad_name_with (sheet_of text) (first_field fields) (cells fields)
      ((sized_names (sheet_of text)).1 (accepted_unrefused text p).sized)

  pub uneven_line_told : uneven_line (lines_of (text ++ line))
      ≡ not (eqb (length fields) (suc (permission_count (sheet_of text))))
  uneven_line_told =
      ap uneven_line (lines_with text line fields p one)
      ∙ uneven_with (lines_of text) fields (accepted_some_line text p)
      ((even_lines (lines_of text)).1 (accepted_unrefused text p).even)
      ∙ rw (first_line_length text p)

  pub bad_cell_told : bad_cell (lines_of (text ++ line)) ≡ not (all is_bit (tail fields))
  bad_cell_told =
      ap bad_cell (lines_with text line fields p one)
      ∙ bad_cell_with (lines_of text) fields (accepted_some_line text p)
      ((bit_lines (lines_of text)).1 (accepted_unrefused text p).bits)

  pub too_many_grants_told : too_many_grants (sheet_of (text ++ line))
      ≡ ltb grant_limit (length (grants (sheet_of text))
      + length (grants_of_row (user_count (sheet_of text)) 0 (cells fields)))
  unfolding too_many_grants
  too_many_grants_told =
      ap (ltb grant_limit) (grant_count_added text line fields p one)
