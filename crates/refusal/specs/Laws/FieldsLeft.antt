-- Counting the fields after the first of a line while a cursor passes them: those still to come are the line's
-- without as many as were counted. Assumes nothing.
use Rattle.std.specs.Prelude.{ℕ, suc, ◌≤◌, ◌<◌, ◌≡◌, refl, Bool, true, false, length, get_or, drop}
use Rattle.std.proofs.Common.{arith, sym, ap, ◌∙◌}
use mathlib.Core.List.{[], ◌∷◌, tail}
use Rattle.spec.specs.Text.{Bytes, Line}
use Rattle.lists.specs.DropLaws.{left_below, left_first, left_rest, none_left}
use Rattle.reader.specs.Fields.{field_read}
use Rattle.refusal.specs.FirstLine.{line_fields}
use Rattle.refusal.specs.Laws.Fields.{later_fields, FieldStep, field_step}
use Rattle.places.specs.Places.{part, Part}
use Rattle.reader.specs.declared.cursor.FieldRead.{FieldRead}

-- the fields after the first of the line that starts at a place
abbrev pub fields_after : Bytes → ℕ → Line
fields_after text at = tail (line_fields (drop at text))

-- n of them were passed, and the line is read up to a cursor
pub record FieldsLeft (text : Bytes) (at n : ℕ) (last : Bool) (next : ℕ) : Type 0 where
  pub to_come : later_fields last (drop next text) ≡ drop n (fields_after text at)
  pub more : last ≡ false → next ≤ length text
  pub within : next ≤ suc (length text)

pub fields_start : (text : Bytes) (at : ℕ) → at ≤ length text
    → FieldsLeft text at 0 (field_read text at).last (field_read text at).next.at
fields_start text at h =
    let f = field_step text at h in
    record { to_come = sym (ap tail f.line); more = λ e. omega (arith, f.more e); within = omega arith }

module _ (text : Bytes) (at n next : ℕ) (left : FieldsLeft text at n false next) where
  -- the field that is read next
  abbrev field : FieldRead
  field = field_read text next

  pub field_next : FieldStep text next (field_read text next)
  field_next = field_step text next (left.more refl)

  first_of_left : drop n (fields_after text at)
      ≡ part field.from field.to text ∷ later_fields field.last (drop field.next.at text)
  first_of_left = sym left.to_come ∙ field_next.line

  -- while a field is left, fewer were passed than there are
  pub field_below : n < length (fields_after text at)
  field_below =
      left_below (fields_after text at) n (part field.from field.to text)
      (later_fields field.last (drop field.next.at text))
      first_of_left

  -- it is the next of them
  pub field_there : Part text (field_read text next).from (field_read text next).to (get_or (fields_after text at) n [])
  field_there =
      record {
        forward = omega (arith, field_next);
        within = field_next.within;
        reads =
            sym (left_first (fields_after text at) n (part field.from field.to text) []
            (later_fields field.last (drop field.next.at text)) first_of_left);
      }

  pub fields_go_on : FieldsLeft text at (suc n) (field_read text next).last (field_read text next).next.at
  fields_go_on =
      record {
        to_come =
            sym (left_rest (fields_after text at) n (part field.from field.to text)
            (later_fields field.last (drop field.next.at text)) first_of_left);
        more = λ e. omega (arith, field_next.more e, field_next);
        within = omega (arith, field_next);
      }

-- at the end of the line all of them were passed
pub fields_end : (text : Bytes) (at n next : ℕ) → FieldsLeft text at n true next → length (fields_after text at) ≤ n
fields_end text at n next left = none_left (fields_after text at) n (sym left.to_come)
