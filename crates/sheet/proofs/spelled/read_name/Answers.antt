-- `spelled::read_name`: the field at a place within the text starts there and ends within the text.
use Rattle.std.proofs.Common.{ℕ, ◌≡◌, ◌≤◌, length, arith, ap, ◌∙◌}
use Rattle.spec.specs.Text.{Bytes}
use Rattle.reader.specs.Fields.{field_read}
use Rattle.refusal.specs.Laws.Fields.{FieldStep, field_step}
use Rattle.sheet.specs.Spelled.{field_end}
use Rattle.sheet.specs.Laws.Spelled.{field_ends}
use Rattle.reader.specs.declared.cursor.FieldRead.{FieldRead}
use Rattle.sheet.proofs.spelled.read_name.Goals as goal

step : (s : Bytes) (at : ℕ) (f : FieldRead) → at ≤ length s → f ≡ field_read s at → FieldStep s at f
step s at f h e = rw e (field_step s at h)

ends : (s : Bytes) (at : ℕ) (f : FieldRead) → at ≤ length s → f ≡ field_read s at → f.to ≡ field_end s at
ends s at f h e = ap (λ (read : FieldRead). read.to) e ∙ field_ends s at h

pub slice_bounds-is_name-count : goal.slice_bounds-is_name-count
slice_bounds-is_name-count c =
    omega (arith, step c.args.s.now c.args.at c.field-field.result c.requires c.field-field.ensures)

pub slice_bounds-is_name-start : goal.slice_bounds-is_name-start
slice_bounds-is_name-start c =
    omega (arith, step c.args.s.now c.args.at c.field-field.result c.requires c.field-field.ensures)

pub slice_bounds-is_name-end : goal.slice_bounds-is_name-end
slice_bounds-is_name-end c =
    omega (arith, step c.args.s.now c.args.at c.field-field.result c.requires c.field-field.ensures)

pub returns-then-is_name : goal.returns-then-is_name
returns-then-is_name c =
    rw (
      ← ends c.args.s.now c.args.at c.field-field.result c.requires c.field-field.ensures,
      ← c.if-is_name.ensures,
    )

pub returns-else-is_name : goal.returns-else-is_name
returns-else-is_name c =
    rw (
      ← ends c.args.s.now c.args.at c.field-field.result c.requires c.field-field.ensures,
      ← c.if-is_name.ensures,
    )
