-- The number of a sheet with a line added, by what was read of the line: each cause of the longer sheet is told by the
-- line alone, and what is asked of all lines of a body is asked of its one line. Assumes nothing.
use Rattle.std.specs.Prelude.{ℕ, suc, ◌+◌, ◌≤◌, ◌<◌, ◌≡◌, refl, true, false, ◌&&◌, ◌||◌, not, eqb, ltb, length}
use Rattle.std.proofs.Common.{arith, sym, ap, ◌∙◌, lt-ltb, le-ltb, eqb-true, eq-eqb}
use Rattle.std.proofs.Math.Bool.{So, and-true}
use mathlib.Core.List.{[], ◌∷◌, ◌++◌, tail, append-nil}
use Rattle.spec.specs.Vocabulary.{empty, all}
use Rattle.spec.specs.Limits.{sheet_limit, permission_limit, grant_limit}
use Rattle.spec.specs.Text.{Bytes, Line, lines, lines_of}
use Rattle.spec.specs.Sheet.{first_field, is_one, is_bit, sheet_of, user_count, grants_of_row}
use Rattle.spec.specs.Refusal.{refuse_if, first_number, too_long, bad_bytes, bad_name, uneven_line, bad_cell}
use Rattle.spec.specs.Refusal.{has_name_length, too_many_grants, accepted}
use Rattle.spec.specs.Newcomer.{feed_before_end, longer_causes}
use Rattle.bits.specs.Truth.{and_left}
use Rattle.rules.specs.SheetLines.{cells}
use Rattle.rules.specs.AcceptedFacts.{accepted_lawful}
use Rattle.longer.specs.OneLine.{added_fields, one_line_read}
use Rattle.longer.specs.AddedCauses.{too_long_told, bad_bytes_told, bad_name_told, uneven_line_told, bad_cell_told}
use Rattle.longer.specs.AddedCauses.{too_many_grants_told}
use Rattle.names.specs.LaidOut.{LaidOut}
use Rattle.names.specs.declared.layout.Layout.{Layout}
use Rattle.refusal.specs.Cells.{ones_in}
use Rattle.refusal.specs.Body.{body_of}
use Rattle.refusal.specs.Laws.Cells.{one_if_small}
use Rattle.refusal.specs.Laws.Ones.{rows_ones}
use Rattle.refusal.specs.Laws.Judge.{even_after_first}
use Rattle.refusal.specs.declared.body.Body.{Body}

-- ---- the causes in turn

-- those of what the longer sheet says
abbrev causes_from_5 : Bytes → ℕ
causes_from_5 text =
    refuse_if (bad_name (sheet_of text)) 5
    (refuse_if (uneven_line (lines_of text)) 6
    (refuse_if (bad_cell (lines_of text)) 7 (refuse_if (too_many_grants (sheet_of text)) 9 0)))

number_in_turn : (text line : Bytes)
    → first_number (longer_causes text line)
    ≡ refuse_if (too_long (text ++ line)) 1
    (refuse_if (bad_bytes (text ++ line) || empty line || feed_before_end line) 2 (causes_from_5 (text ++ line)))
unfolding longer_causes
number_in_turn text line = refl

-- the same, by what the one line of a body says, where the sheet has so many grants
abbrev pub body_number : ℕ → Body → ℕ
body_number grants body =
    refuse_if (not body.names) 5
    (refuse_if (not body.even) 6
    (refuse_if (not body.bits) 7 (refuse_if (ltb grant_limit (grants + body.ones)) 9 0)))

-- ---- 1 and 2

pub long_number : (text line : Bytes) → sheet_limit < length text + length line
    → first_number (longer_causes text line) ≡ 1
long_number text line long =
    number_in_turn text line ∙ rw (too_long_told text line, lt-ltb sheet_limit (length text + length line) long)

-- the line alone, where it does not make the sheet too long
past_long : (text line : Bytes) → So (accepted text) → length text + length line ≤ sheet_limit
    → first_number (longer_causes text line)
    ≡ refuse_if (bad_bytes line || not (eqb (length (lines_of line)) 1)) 2 (causes_from_5 (text ++ line))
past_long text line p short =
    number_in_turn text line
    ∙ rw (
      too_long_told text line,
      le-ltb sheet_limit (length text + length line) short,
      bad_bytes_told text line p,
    )

pub bad_line_number : (text line : Bytes) → So (accepted text) → length text + length line ≤ sheet_limit
    → So (bad_bytes line || not (eqb (length (lines_of line)) 1)) → first_number (longer_causes text line) ≡ 2
bad_line_number text line p short bad = past_long text line p short ∙ rw bad

-- ---- 5, 6, 7 and 9

ones_within : (line : Line) → ones_in line ≤ length line
ones_within [] = omega arith
ones_within (field ∷ rest) = omega (arith, one_if_small (is_one field), ones_within rest)

-- one line was read for a sheet with this layout
pub record OneLineRead (text line : Bytes) (layout : Layout) (body : Body) : Type 0 where
  pub laid_out : LaidOut text layout
  pub read : body ≡ body_of layout.permissions (lines_of line)
  pub one_line : body.users ≡ 1

module _ (text line : Bytes) (layout : Layout) (body : Body) (r : OneLineRead text line layout body) where
  abbrev fields : Line
  fields = added_fields line

  line_count : length (lines_of line) ≡ 1
  line_count = sym (ap (λ said. said.users) r.read) ∙ r.one_line

  one : lines_of line ≡ fields ∷ []
  one = one_line_read line line_count

  -- what the body says is what its one line says
  body_is : body ≡ body_of layout.permissions (fields ∷ [])
  body_is = r.read ∙ ap (body_of layout.permissions) one

  names_told : bad_name (sheet_of (text ++ line)) ≡ not body.names
  names_told =
      bad_name_told text line fields r.laid_out.accepts one
      ∙ ap not (sym (ap (λ said. said.names) body_is ∙ and-true (has_name_length (first_field fields))))

  even_told : uneven_line (lines_of (text ++ line)) ≡ not body.even
  even_told =
      uneven_line_told text line fields r.laid_out.accepts one
      ∙ rw (← r.laid_out.permission_total)
      (ap not (sym (and-true (eqb (length fields) (suc layout.permissions))) ∙ after_first
      ∙ sym (ap (λ said. said.even) body_is)))
    where
      after_first : (eqb (length fields) (suc layout.permissions) && true)
          ≡ (eqb (length (tail fields)) layout.permissions && true)
      after_first = rw one at (even_after_first layout.permissions (lines line))

  cells_told : bad_cell (lines_of (text ++ line)) ≡ not body.bits
  cells_told =
      bad_cell_told text line fields r.laid_out.accepts one
      ∙ ap not (sym (ap (λ said. said.bits) body_is ∙ and-true (all is_bit (tail fields))))

  -- the newcomer's grants are the fields that are `1`
  ones_told : length (grants_of_row (user_count (sheet_of text)) 0 (cells fields)) ≡ body.ones
  ones_told =
      ap length (sym (append-nil (grants_of_row (user_count (sheet_of text)) 0 (cells fields))))
      ∙ rows_ones (user_count (sheet_of text)) (fields ∷ []) ∙ sym (ap (λ said. said.ones) body_is)

  grants_told : too_many_grants (sheet_of (text ++ line)) ≡ ltb grant_limit (layout.grants + body.ones)
  grants_told =
      too_many_grants_told text line fields r.laid_out.accepts one ∙ rw (r.laid_out.grant_total, ones_told)

  pub line_number : length text + length line ≤ sheet_limit → bad_bytes line ≡ false
      → first_number (longer_causes text line) ≡ body_number layout.grants body
  line_number short fine =
      past_long text line r.laid_out.accepts short
      ∙ rw (
        fine,
        eq-eqb (length (lines_of line)) 1 line_count,
        names_told,
        even_told,
        cells_told,
        grants_told,
      )

  -- a line with a cell for each permission leaves the sum of the grants small
  pub grants_small : So body.even → layout.grants + body.ones ≤ grant_limit + permission_limit
  grants_small even =
      let lawful = accepted_lawful text r.laid_out.accepts in
      let said : So (eqb (length (tail fields)) layout.permissions && true) =
      sym (ap (λ said. said.even) body_is) ∙ even in
      let width = eqb-true (length (tail fields)) layout.permissions
      (and_left (eqb (length (tail fields)) layout.permissions) true said) in
      omega (
        arith,
        width,
        ones_within (tail fields),
        ap (λ said. said.ones) body_is,
        lawful.few_grants,
        lawful.few_permissions,
        r.laid_out.grant_total,
        r.laid_out.permission_total,
      )
