-- The judgement of the witness by rows of words: line after line, each held and fitting none before it. Where the
-- rows are the sheet's and the lines all have a place, this is the judgement of the grants that the lines name.
use Rattle.std.specs.Prelude.{ℕ, ◌+◌, ◌*◌, ◌≤◌, ◌<◌, ◌≡◌, Bool, false, ◌&&◌, not, get_or}
use Rattle.std.proofs.Common.{arith, sym, ap, ◌∙◌}
use Rattle.std.proofs.Math.Bool.{So}
use mathlib.Core.List.{List, Memᴰ}
use Rattle.std.proofs.Math.ListN.{length}
use Rattle.spec.specs.Vocabulary.{every_below}
use Rattle.bits.specs.Counting.{some_below}
use Rattle.spec.specs.Limits.{role_limit}
use Rattle.spec.specs.Sheet.{Sheet, Grant, user_count, permission_count, holds, held}
use Rattle.spec.specs.Fit.{fits}
use Rattle.spec.specs.Cover.{grant_at}
use Rattle.spec.specs.Refusal.{witness_agrees}
use Rattle.bits.specs.Truth.{same_truth, and_intro, and_left, and_right, not_passes, not_fails}
use Rattle.bits.specs.Laws.Below.{none_below_intro, none_below_elim, every_below_intro, every_below_elim}
use Rattle.lists.specs.TestLaws.{member_at, place_of}
use Rattle.lists.specs.EachLaws.{Each}
use Rattle.cell_rows.specs.Rows.{row_words, row_bits, cell, RowsOf}
use Rattle.right.specs.CheckParts.{witness_stands_elim, witness_stands_intro}
use Rattle.read_fields.specs.declared.witness_block.WitnessLine.{WitnessLine}
use Rattle.read_fields.specs.declared.witness_block.Witness.{Witness}
use Rattle.cell_rows.specs.Laws.RowWithin.{row_within}
use Rattle.read_fields.specs.WitnessList.{named_grant, no_line, Collects}
use Rattle.read_fields.specs.WitnessLineSteps.{Known}

-- a line by its number
abbrev pub line_of : Witness → ℕ → WitnessLine
line_of w i = get_or w.first i no_line

-- the grant of a line is held
abbrev pub line_held : List ℕ → WitnessLine → Bool
line_held rows line = cell rows line.user.0 line.permission.0

-- the grants of two lines fit
abbrev pub lines_fit : List ℕ → WitnessLine → WitnessLine → Bool
lines_fit rows a b = cell rows a.user.0 b.permission.0 && cell rows b.user.0 a.permission.0

-- the grant of line j fits that of an earlier line
unfoldable pub fits_earlier : List ℕ → Witness → ℕ → Bool
fits_earlier rows w j = some_below j (λ i. lines_fit rows (line_of w i) (line_of w j))

-- the grant of line j is held and fits none before it
abbrev pub line_stands : List ℕ → Witness → ℕ → Bool
line_stands rows w j = line_held rows (line_of w j) && not (fits_earlier rows w j)

-- every line stands
unfoldable pub lines_stand : List ℕ → Witness → Bool
unfolding fits_earlier
lines_stand rows w = every_below w.lines (line_stands rows w)

-- a line has a place in the rows
pub record LineWithin (rows : List ℕ) (line : WitnessLine) : Type 0 where
  pub row : (line.user.0 + 1) * row_words ≤ length rows
  pub place : line.permission.0 < row_bits

-- all lines of a witness are kept and have a place in the rows
pub record LinesWithin (rows : List ℕ) (w : Witness) : Type 0 where
  pub few : w.lines ≤ role_limit
  pub each : (i : ℕ) → i < w.lines → LineWithin rows (line_of w i)

module _ (sheet : Sheet) (rows : List ℕ) (w : Witness) (grants : List Grant) (shown : RowsOf rows sheet)
    (wide : permission_count sheet ≤ row_bits)
    (known : Each (Known sheet) grants) (collects : Collects w grants) (few : length grants ≤ role_limit) where
  known_at : (i : ℕ) → i < length grants → Known sheet (grant_at grants i)
  known_at i h = known (grant_at grants i) (member_at grants i (record { user = 0; permission = 0 }) h)

  named_at : (i : ℕ) → i < length grants → named_grant (line_of w i) ≡ grant_at grants i
  named_at i h = collects.named i h (omega arith)

  pub lines_within : user_count sheet * row_words ≤ length rows → LinesWithin rows w
  lines_within room =
      let counted = collects.counted in
      record {
        few = omega arith;
        each = λ i h.
            (let here : i < length grants = omega arith in
            let k : Known sheet (named_grant (line_of w i)) = rw (named_at i here) (known_at i here) in
            record {
              row = row_within (line_of w i).user.0 (user_count sheet) (length rows) k.user room;
              place = omega (arith, k.permission);
            });
      }

  -- a cell of two grants of the lines
  cell_of : (i j : ℕ) → i < length grants → j < length grants
      → cell rows (line_of w i).user.0 (line_of w j).permission.0 ≡ holds sheet (grant_at grants i).user
      (grant_at grants j).permission
  cell_of i j h k =
      let user : (line_of w i).user.0 ≡ (grant_at grants i).user = ap (λ (g : Grant). g.user) (named_at i h) in
      let permission : (line_of w j).permission.0 ≡ (grant_at grants j).permission = ap (λ (g : Grant). g.permission)
      (named_at j k) in
      rw (user, permission) (shown.shows (grant_at grants i).user (grant_at grants j).permission
      (omega (arith, (known_at j k).permission)))

  held_at : (i : ℕ) → i < length grants → line_held rows (line_of w i) ≡ held sheet (grant_at grants i)
  held_at i h = cell_of i i h h

  fit_at : (i j : ℕ) → i < length grants → j < length grants → lines_fit rows (line_of w i) (line_of w j) ≡ fits sheet
      (grant_at grants i) (grant_at grants j)
  fit_at i j h k = rw (cell_of i j h k, cell_of j i k h)

  -- the witness by words is judged as its grants are
  pub stands_by_words : lines_stand rows w ≡ witness_agrees sheet grants
  unfolding lines_stand
  stands_by_words = same_truth (every_below w.lines (line_stands rows w)) (witness_agrees sheet grants) forth back
    where
      forth : So (every_below w.lines (line_stands rows w)) → So (witness_agrees sheet grants)
      forth all = witness_stands_intro sheet grants (record { all_held = all_held; none_fit = none_fit })
        where
          line : (j : ℕ) → j < length grants → So (line_stands rows w j)
          line j h = every_below_elim w.lines (line_stands rows w) all (let counted = collects.counted
              in omega arith)

          all_held : (g : Grant) → Memᴰ g grants → So (held sheet g)
          all_held g m =
              let r = place_of grants (record { user = 0; permission = 0 }) m in
              rw r.there at
              (sym (held_at r.place r.within)
              ∙ and_left (line_held rows (line_of w r.place)) (not (fits_earlier rows w r.place))
              (line r.place r.within))

          none_fit : (i j : ℕ) → i < j → j < length grants → fits sheet (grant_at grants i) (grant_at grants j) ≡ false
          none_fit i j h k =
              sym (fit_at i j (omega arith) k)
              ∙ none_below_elim j (λ i. lines_fit rows (line_of w i) (line_of w j))
              (not_fails (fits_earlier rows w j) (and_right (line_held rows (line_of w j))
              (not (fits_earlier rows w j)) (line j k))) h

      back : So (witness_agrees sheet grants) → So (every_below w.lines (line_stands rows w))
      back stands =
          let s = witness_stands_elim sheet grants stands in
          every_below_intro w.lines (line_stands rows w) (λ j h.
          (let here : j < length grants = (let counted = collects.counted in omega arith) in
          and_intro (line_held rows (line_of w j)) (not (fits_earlier rows w j))
          (held_at j here ∙ s.all_held (grant_at grants j) (member_at grants j (record { user = 0; permission = 0 })
          here))
          (not_passes (fits_earlier rows w j)
          (none_below_intro j (λ i. lines_fit rows (line_of w i) (line_of w j)) (λ i k. fit_at i j (omega arith) here
          ∙ s.none_fit i j k here)))))
