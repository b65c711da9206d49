-- `causes::judge_line`: each test is the cause of its number, by the line alone. Where the line is one line of allowed
-- bytes that does not make the sheet too long, what was read of it decides (`body_number`), test after test.
use Rattle.std.proofs.Common.{◌≡◌, ◌-◌, ◌+◌, ◌≤◌, false, not, eqb, length, arith, sym, ap, ◌∙◌, ne_eqb, lt-ltb, le-ltb}
use Rattle.std.proofs.Math.Bool.{So}
use Rattle.std.proofs.lemmas.Bool.{not-false}
use Rattle.spec.specs.Limits.{sheet_limit, permission_limit, grant_limit}
use Rattle.spec.specs.Text.{Bytes, lines_of}
use Rattle.spec.specs.Refusal.{first_number, bad_bytes, accepted}
use Rattle.spec.specs.Newcomer.{longer_causes}
use Rattle.bits.specs.Truth.{or_left, or_right}
use Rattle.rules.specs.AcceptedFacts.{accepted_short}
use Rattle.names.specs.LaidOut.{LaidOut}
use Rattle.names.specs.declared.layout.Layout.{Layout}
use Rattle.refusal.specs.Body.{body_of}
use Rattle.refusal.specs.declared.body.Body.{Body}
use Rattle.added_line.specs.Laws.LineNumber.{body_number, long_number, bad_line_number, OneLineRead, line_number}
use Rattle.added_line.specs.Laws.LineNumber.{grants_small}
use Rattle.added_line.proofs.causes.judge_line.Goals as goal

-- ---- 1 and 2

short : (sheet line : Bytes) → So (accepted sheet) → length line ≤ sheet_limit - length sheet
    → length sheet + length line ≤ sheet_limit
unfolding sheet_limit
short sheet line accepts h = omega (arith, accepted_short sheet accepts)

pub overflow_sub-sheet : goal.overflow_sub-sheet
unfolding sheet_limit
overflow_sub-sheet c = omega (arith, accepted_short c.args.sheet.now c.requires.accepts)

pub returns-then-sheet-line : goal.returns-then-sheet-line
unfolding sheet_limit
returns-then-sheet-line c =
    sym (long_number c.args.sheet.now c.args.line.now (omega (arith, c.if-sheet-line.true)))

pub returns-then-has_bad_bytes : goal.returns-then-has_bad_bytes
unfolding sheet_limit
returns-then-has_bad_bytes c =
    let line = c.args.line.now in
    sym (bad_line_number c.args.sheet.now line c.requires.accepts
    (short c.args.sheet.now line c.requires.accepts c.if-sheet-line.false)
    (or_left (bad_bytes line) (not (eqb (length (lines_of line)) 1)) (sym c.if-has_bad_bytes.ensures)))

pub returns-then-body-ne1 : goal.returns-then-body-ne1
unfolding sheet_limit
returns-then-body-ne1 c =
    let line = c.args.line.now in
    let count = ap (λ (said : Body). said.users) c.read_body-body.ensures in
    sym (bad_line_number c.args.sheet.now line c.requires.accepts
    (short c.args.sheet.now line c.requires.accepts c.if-sheet-line.false)
    (or_right (bad_bytes line) (not (eqb (length (lines_of line)) 1))
    (ap not (ne_eqb (length (lines_of line)) 1 (λ e. c.if-body-ne1.true (count ∙ e))))))

-- ---- 5, 6, 7 and 9

-- one line was read
module _ (sheet line : Bytes) (layout : Layout) (body : Body) (laid_out : LaidOut sheet layout)
    (read : body ≡ body_of layout.permissions (lines_of line)) (one_line : body.users ≡ 1) where
  was_read : OneLineRead sheet line layout body
  was_read = record { laid_out = laid_out; read = read; one_line = one_line }

  number : length line ≤ sheet_limit - length sheet → false ≡ bad_bytes line
      → first_number (longer_causes sheet line) ≡ body_number layout.grants body
  number h fine =
      line_number sheet line layout body was_read (short sheet line laid_out.accepts h) (sym fine)

  few : not body.even ≡ false → layout.grants + body.ones ≤ grant_limit + permission_limit
  few even = grants_small sheet line layout body was_read (not-false body.even even)

pub returns-then-not-body : goal.returns-then-not-body
unfolding sheet_limit
returns-then-not-body c =
    rw (
      number c.args.sheet.now c.args.line.now c.args.layout c.read_body-body.result c.requires
          c.read_body-body.ensures c.if-body-ne1.false c.if-sheet-line.false c.if-has_bad_bytes.ensures,
      c.if-not-body.true,
    )

pub returns-then-not-body-2 : goal.returns-then-not-body-2
unfolding sheet_limit
returns-then-not-body-2 c =
    rw (
      number c.args.sheet.now c.args.line.now c.args.layout c.read_body-body.result c.requires
          c.read_body-body.ensures c.if-body-ne1.false c.if-sheet-line.false c.if-has_bad_bytes.ensures,
      c.if-not-body.false,
      c.if-not-body-2.true,
    )

pub returns-then-not-body-3 : goal.returns-then-not-body-3
unfolding sheet_limit
returns-then-not-body-3 c =
    rw (
      number c.args.sheet.now c.args.line.now c.args.layout c.read_body-body.result c.requires
          c.read_body-body.ensures c.if-body-ne1.false c.if-sheet-line.false c.if-has_bad_bytes.ensures,
      c.if-not-body.false,
      c.if-not-body-2.false,
      c.if-not-body-3.true,
    )

pub overflow_add-layout : goal.overflow_add-layout
unfolding grant_limit permission_limit
overflow_add-layout c =
    omega (
      arith,
      few c.args.sheet.now c.args.line.now c.args.layout c.read_body-body.result c.requires c.read_body-body.ensures
          c.if-body-ne1.false c.if-not-body-2.false,
    )

pub returns-then-layout-body-gt-GRANT_LIMIT : goal.returns-then-layout-body-gt-GRANT_LIMIT
unfolding sheet_limit grant_limit
returns-then-layout-body-gt-GRANT_LIMIT c =
    rw (
      number c.args.sheet.now c.args.line.now c.args.layout c.read_body-body.result c.requires
          c.read_body-body.ensures c.if-body-ne1.false c.if-sheet-line.false c.if-has_bad_bytes.ensures,
      c.if-not-body.false,
      c.if-not-body-2.false,
      c.if-not-body-3.false,
      lt-ltb _ _ c.if-layout-body-gt-GRANT_LIMIT.true,
    )

pub returns : goal.returns
unfolding sheet_limit grant_limit
returns c =
    rw (
      number c.args.sheet.now c.args.line.now c.args.layout c.read_body-body.result c.requires
          c.read_body-body.ensures c.if-body-ne1.false c.if-sheet-line.false c.if-has_bad_bytes.ensures,
      c.if-not-body.false,
      c.if-not-body-2.false,
      c.if-not-body-3.false,
      le-ltb _ _ c.if-layout-body-gt-GRANT_LIMIT.false,
    )
