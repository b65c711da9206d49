-- `line::read_line`: in a turn the line goes on and one more field is read, and at its end all are.
use Rattle.std.proofs.Common.{ℕ, ◌≡◌, Bool, true, false, refl, arith, sym}
use Rattle.std.specs.Prelude.{not}
use Rattle.std.proofs.lemmas.Bool.{not-false}
use Rattle.spec.specs.Text.{Bytes}
use Rattle.bits.specs.Truth.{not_fails}
use Rattle.reader.specs.Fields.{field_read}
use Rattle.refusal.specs.Laws.Fields.{FieldStep, field_step}
use Rattle.refusal.specs.Laws.ReadLine.{Reading, first_field_part, reading_starts, reading_goes_on, reading_ends}
use Rattle.reader.specs.declared.cursor.FieldRead.{FieldRead}
use Rattle.refusal.specs.declared.fields.Cells.{Cells}
use Rattle.refusal.proofs.line.read_line.Goals as goal

-- in a turn the line goes on
goes_on : {s : Bytes} {at : ℕ} {cells : Cells} {last : Bool} {next : ℕ} → Reading s at cells last next
    → not last ≡ true → Reading s at cells false next
goes_on {last = last} r t = rw (not_fails last t) at r

-- and a field is read
read : {s : Bytes} {at : ℕ} {cells : Cells} {last : Bool} {next : ℕ} → Reading s at cells last next → not last ≡ true
    → (f : FieldRead) → f ≡ field_read s next → FieldStep s next f
read {s} {next = next} r t f e = rw e (field_step s next ((goes_on r t).more refl))

pub loop-field-init : goal.loop-field-init
loop-field-init c =
    rw (c.field-field.ensures, c.none-cells.ensures) (reading_starts c.args.s.now c.args.at c.requires)

pub slice_bounds-with-count : goal.slice_bounds-with-count
slice_bounds-with-count c =
    omega (
      arith,
      read c.loop-field.invariant c.loop-field-test.true c.field-field-in-loop-field.result
          c.field-field-in-loop-field.ensures,
    )

pub slice_bounds-with-start : goal.slice_bounds-with-start
slice_bounds-with-start c =
    omega (
      arith,
      read c.loop-field.invariant c.loop-field-test.true c.field-field-in-loop-field.result
          c.field-field-in-loop-field.ensures,
    )

pub slice_bounds-with-end : goal.slice_bounds-with-end
slice_bounds-with-end c =
    omega (
      arith,
      read c.loop-field.invariant c.loop-field-test.true c.field-field-in-loop-field.result
          c.field-field-in-loop-field.ensures,
    )

pub loop-field-smaller : goal.loop-field-smaller
loop-field-smaller c =
    omega (
      arith,
      read c.loop-field.invariant c.loop-field-test.true c.field-field-in-loop-field.result
          c.field-field-in-loop-field.ensures,
    )

pub loop-field-preserved : goal.loop-field-preserved
loop-field-preserved c =
    rw (c.with-cells.ensures, c.field-field-in-loop-field.ensures)
    (reading_goes_on c.args.s.now c.args.at c.loop-field.cells c.loop-field.field.next.at
    (goes_on c.loop-field.invariant c.loop-field-test.true))

pub returns : goal.returns
returns c =
    let whole = rw (not-false c.loop-field.field.last c.loop-field-test.false) at c.loop-field.invariant in
    record {
      name = rw c.field-field.ensures (first_field_part c.args.s.now c.args.at c.requires);
      cells = reading_ends c.args.s.now c.args.at c.loop-field.cells c.loop-field.field.next.at whole;
      after = sym whole.after;
      within = whole.within;
      count_small = whole.count_small;
      ones_small = whole.ones_small;
    }
