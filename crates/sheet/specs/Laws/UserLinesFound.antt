-- The lines of users that a text is made of are found one by one: while bytes are left a line is left, and it is
-- read. Assumes nothing.
use Rattle.std.specs.Prelude.{ℕ, suc, ◌≤◌, ◌<◌, ◌≡◌, Bool, false, List, [], map, length, get_or, drop, None}
use Rattle.std.proofs.Common.{arith, sym, ap, ◌∙◌, ⊎_elim, length-drop, drop_of_length-le, drop-cons}
use Rattle.spec.specs.Vocabulary.{list_of}
use Rattle.spec.specs.Limits.{user_limit}
use Rattle.spec.specs.Text.{Bytes, text_of}
use Rattle.spec.specs.Sheet.{cell_text}
use Rattle.spec.specs.Rules.{user_lines}
use Rattle.bits.specs.Laws.Below.{below_or_from}
use Rattle.lists.specs.TestLaws.{member_at}
use Rattle.lists.specs.ListOfLaws.{list_of_places, map_list_of}
use Rattle.sheet.specs.UserLine.{Spells, LineStands, UserLineReads}
use Rattle.sheet.specs.UserLines.{Fit, UserLinesReads}
use Rattle.sheet.specs.declared.user_line.UserLine.{UserLine}

-- of any lines that the text is made of from `start` on, all but the first n are left from `at` on
abbrev pub LinesLeft : Bytes → ℕ → ℕ → ℕ → ℕ → Type 0
LinesLeft text start width n at =
    (names : List Bytes) (rows : List (List Bool)) → Fit width names rows → drop start text ≡ text_of
    (user_lines names rows)
    → drop at text ≡ text_of (user_lines (drop n names) (drop n rows))

-- a row as its cells by number
row_by_number : (row : List Bool) (width : ℕ) → length row ≡ width → map cell_text row ≡ list_of width
    (λ i. cell_text (get_or row i false))
row_by_number row width e =
    ap (map cell_text) (sym (list_of_places row false)) ∙ map_list_of cell_text (length row) (λ i. get_or row i false)
    ∙ ap (λ (k : ℕ). list_of k (λ i. cell_text (get_or row i false))) e

module _ (text : Bytes) (start width n at : ℕ) (left : LinesLeft text start width n at) (h : at < length text)
    (names : List Bytes)
    (rows : List (List Bool)) (fit : Fit width names rows) (e : drop start text ≡ text_of (user_lines names rows)) where
  -- while bytes are left, a line is
  line_below : n < length names
  line_below = ⊎_elim (λ l. l) past (below_or_from n (length names))
    where
      past : length names ≤ n → n < length names
      past l =
          let nothing : drop at text ≡ [] = left names rows fit e ∙ rw (drop_of_length-le names l) in
          absurd (omega (arith, ap length nothing, length-drop at text))

  pub few_left : n < user_limit
  few_left = omega (arith, line_below, fit.few)

  row_below : n < length rows
  row_below = omega (arith, line_below, fit.as_many)

  pub next_spells : Spells text at width (get_or names n []) (λ i. get_or (get_or rows n []) i false)
      (text_of (user_lines (drop (suc n) names) (drop (suc n) rows)))
  next_spells =
      record {
        within = omega arith;
        named = fit.each (get_or names n []) (member_at names n [] line_below);
        spelled =
            left names rows fit e
            ∙ rw (
              drop-cons names n [] line_below,
              drop-cons rows n [] row_below,
              row_by_number (get_or rows n []) width (fit.even (get_or rows n []) (member_at rows n [] row_below)),
            );
      }

-- a line that was read leaves the others
pub left_next : (text : Bytes) (start width n at : ℕ) → LinesLeft text start width n at → at < length text
    → {words after : List ℕ} (line : UserLine)
    → LineStands text at width n words after line → LinesLeft text start width (suc n) line.next
left_next text start width n at left h line stands names rows fit e =
    stands.behind (get_or names n []) (λ i. get_or (get_or rows n []) i false)
    (text_of (user_lines (drop (suc n) names) (drop (suc n) rows)))
    (next_spells text start width n at left h names rows fit e)

-- and where no line was read, the text is made of no such lines
pub no_line_left : (text : Bytes) (start width n at : ℕ) → LinesLeft text start width n at → at < length text
    → UserLineReads text at width n [] [] None → UserLinesReads text start width [] [] None
no_line_left text start width n at left h none names rows fit e =
    none (get_or names n []) (λ i. get_or (get_or rows n []) i false)
    (text_of (user_lines (drop (suc n) names) (drop (suc n) rows)))
    (next_spells text start width n at left h names rows fit e)
