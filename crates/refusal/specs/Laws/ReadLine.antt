-- Reading a line field by field: what the fields read so far say, with those that are still to come, is what the
-- fields of the line say. Reading one more field moves it from the second group to the first. Assumes nothing.
use Rattle.std.specs.Prelude.{ℕ, suc, ◌+◌, ◌≤◌, ◌<◌, ◌≡◌, refl, Bool, true, false, length, drop}
use Rattle.std.proofs.Common.{arith, sym, ◌∙◌}
use mathlib.Core.List.{tail}
use Rattle.spec.specs.Text.{Bytes}
use Rattle.spec.specs.Sheet.{first_field, is_one}
use Rattle.reader.specs.Fields.{field_read}
use Rattle.places.specs.Places.{part, Part}
use Rattle.refusal.specs.FirstLine.{line_fields, after_line}
use Rattle.refusal.specs.Laws.Fields.{later_fields, after_field, field_step}
use Rattle.refusal.specs.Cells.{no_cells, add_cell, add_cells, cells_of}
use Rattle.refusal.specs.Laws.Cells.{one_if_small, cells_added}
use Rattle.refusal.specs.declared.fields.Cells.{Cells}

-- the line at a place is read up to a cursor
pub record Reading (text : Bytes) (at : ℕ) (cells : Cells) (last : Bool) (next : ℕ) : Type 0 where
  pub cells_to_come : add_cells cells (later_fields last (drop next text)) ≡ add_cells no_cells
      (tail (line_fields (drop at text)))
  pub after : after_field last (drop next text) ≡ after_line (drop at text)
  pub more : last ≡ false → next ≤ length text
  pub within : next ≤ suc (length text)
  pub count_small : at + cells.count < next
  pub ones_small : cells.ones ≤ cells.count

pub first_field_part : (text : Bytes) (at : ℕ) → at ≤ length text
    → Part text at (field_read text at).to (first_field (line_fields (drop at text)))
first_field_part text at h =
    let f = field_step text at h in
    record { forward = f.forward; within = f.within; reads = rw (f.line, f.starts) }

pub reading_starts : (text : Bytes) (at : ℕ) → at ≤ length text
    → Reading text at no_cells (field_read text at).last (field_read text at).next.at
reading_starts text at h =
    let f = field_step text at h in
    record {
      cells_to_come = rw f.line;
      after = sym f.after;
      more = λ e. omega (arith, f.more e);
      within = omega arith;
      count_small = omega arith;
      ones_small = omega arith;
    }

pub reading_goes_on : (text : Bytes) (at : ℕ) (cells : Cells) (next : ℕ) → Reading text at cells false next
    → Reading text at (add_cell cells (part (field_read text next).from (field_read text next).to text))
    (field_read text next).last
    (field_read text next).next.at
reading_goes_on text at cells next r =
    let f = field_step text next (r.more refl) in
    record {
      cells_to_come = rw f.line at r.cells_to_come;
      after = sym f.after ∙ r.after;
      more = λ e. omega (arith, f.more e);
      within = omega arith;
      count_small = omega arith;
      ones_small = omega (
        arith,
        one_if_small (is_one (part (field_read text next).from (field_read text next).to
            text)),
      );
    }

-- at the end of the line
pub reading_ends : (text : Bytes) (at : ℕ) (cells : Cells) (next : ℕ) → Reading text at cells true next
    → cells ≡ cells_of (tail (line_fields (drop at text)))
reading_ends text at cells next r = r.cells_to_come ∙ cells_added (tail (line_fields (drop at text)))
