-- `refusal::judge`: each test is the cause of its number, in terms of what was read; where it passes the number is
-- the lowest, and where it fails the later causes decide.
use Rattle.std.proofs.Common.{◌≡◌, true, not, ◌||◌, sym}
use Rattle.spec.specs.Limits.{sheet_limit, permission_limit, user_limit, grant_limit}
use Rattle.bits.specs.Truth.{and_right}
use Rattle.std.proofs.lemmas.Bool.{lt-ltb, le-ltb}
use Rattle.text.specs.Laws.Byte.{between_high}
use Rattle.refusal.specs.Laws.Judge.{long_number, past_long, head_number, lines_number}
use Rattle.refusal.proofs.refusal.judge.Goals as goal
use Rattle.refusal.proofs.refusal.judge.Goals.{then-not-head-via-then-not-head}
use Rattle.refusal.proofs.refusal.judge.Goals.{then-not-head-via-else-not-head+then-not-body}

pub returns-then-s-gt-SHEET_LIMIT : goal.returns-then-s-gt-SHEET_LIMIT
unfolding sheet_limit
returns-then-s-gt-SHEET_LIMIT c = sym (long_number c.args.s.now c.if-s-gt-SHEET_LIMIT.true)

pub returns-then-has_bad_bytes : goal.returns-then-has_bad_bytes
unfolding sheet_limit
returns-then-has_bad_bytes c =
    rw (past_long c.args.s.now c.if-s-gt-SHEET_LIMIT.false, ← c.if-has_bad_bytes.ensures)

pub returns-then-not-good_first_line : goal.returns-then-not-good_first_line
unfolding sheet_limit
returns-then-not-good_first_line c =
    rw (
      head_number c.args.s.now c.read_line-head.result c.if-s-gt-SHEET_LIMIT.false (c.if-has_bad_bytes.ensures)
          c.read_line-head.ensures,
      ← c.if-not-good_first_line.ensures,
    )

pub returns-then-not-is_within : goal.returns-then-not-is_within
unfolding sheet_limit user_limit
returns-then-not-is_within c =
    rw (
      lines_number c.args.s.now c.read_line-head.result c.if-s-gt-SHEET_LIMIT.false (c.if-has_bad_bytes.ensures)
          c.read_line-head.ensures c.read_body-body.result (c.if-not-good_first_line.ensures)
          c.read_body-body.ensures,
      ← c.if-not-is_within.ensures,
    )

pub returns-then-not-head : goal.returns-then-not-head
unfolding sheet_limit user_limit
returns-then-not-head c =
    let unnamed : (not c.read_line-head.result.cells.names || not c.read_body-body.result.names) ≡ true =
    elim c.then-not-head.branch [
      | then-not-head-via-then-not-head w ↦ rw w.if-not-head.true
      | then-not-head-via-else-not-head+then-not-body w ↦ rw (w.if-not-head.false, w.if-not-body.true)
    ] in
    rw (
      lines_number c.args.s.now c.read_line-head.result c.if-s-gt-SHEET_LIMIT.false c.if-has_bad_bytes.ensures
          c.read_line-head.ensures c.read_body-body.result c.if-not-good_first_line.ensures
          c.read_body-body.ensures,
      ← c.if-not-is_within.ensures,
      unnamed,
    )

pub returns-then-not-body-2 : goal.returns-then-not-body-2
unfolding sheet_limit user_limit
returns-then-not-body-2 c =
    rw (
      lines_number c.args.s.now c.read_line-head.result c.if-s-gt-SHEET_LIMIT.false (c.if-has_bad_bytes.ensures)
          c.read_line-head.ensures c.read_body-body.result (c.if-not-good_first_line.ensures)
          c.read_body-body.ensures,
      ← c.if-not-is_within.ensures,
      c.if-not-head.false,
      c.if-not-body.false,
      c.if-not-body-2.true,
    )

pub returns-then-not-body-3 : goal.returns-then-not-body-3
unfolding sheet_limit user_limit
returns-then-not-body-3 c =
    rw (
      lines_number c.args.s.now c.read_line-head.result c.if-s-gt-SHEET_LIMIT.false (c.if-has_bad_bytes.ensures)
          c.read_line-head.ensures c.read_body-body.result (c.if-not-good_first_line.ensures)
          c.read_body-body.ensures,
      ← c.if-not-is_within.ensures,
      c.if-not-head.false,
      c.if-not-body.false,
      c.if-not-body-2.false,
      c.if-not-body-3.true,
    )

pub has_name_twice-requires-clause-users_le_user_limit : goal.has_name_twice-requires-clause-users_le_user_limit
unfolding sheet_limit permission_limit user_limit
has_name_twice-requires-clause-users_le_user_limit c = (
  between_high 1 user_limit c.read_body-body.result.users (sym (c.if-not-is_within.ensures)),
  between_high 1 permission_limit c.read_line-head.result.cells.count
      (and_right _ _ (sym (c.if-not-good_first_line.ensures))),
  c.if-s-gt-SHEET_LIMIT.false,
)

pub returns-then-has_name_twice : goal.returns-then-has_name_twice
unfolding sheet_limit user_limit
returns-then-has_name_twice c =
    rw (
      lines_number c.args.s.now c.read_line-head.result c.if-s-gt-SHEET_LIMIT.false (c.if-has_bad_bytes.ensures)
          c.read_line-head.ensures c.read_body-body.result (c.if-not-good_first_line.ensures)
          c.read_body-body.ensures,
      ← c.if-not-is_within.ensures,
      c.if-not-head.false,
      c.if-not-body.false,
      c.if-not-body-2.false,
      c.if-not-body-3.false,
      ← c.if-has_name_twice.ensures,
    )

pub returns-then-body-gt-GRANT_LIMIT : goal.returns-then-body-gt-GRANT_LIMIT
unfolding sheet_limit user_limit grant_limit
returns-then-body-gt-GRANT_LIMIT c =
    rw (
      lines_number c.args.s.now c.read_line-head.result c.if-s-gt-SHEET_LIMIT.false (c.if-has_bad_bytes.ensures)
          c.read_line-head.ensures c.read_body-body.result (c.if-not-good_first_line.ensures)
          c.read_body-body.ensures,
      ← c.if-not-is_within.ensures,
      c.if-not-head.false,
      c.if-not-body.false,
      c.if-not-body-2.false,
      c.if-not-body-3.false,
      ← c.if-has_name_twice.ensures,
      lt-ltb _ _ c.if-body-gt-GRANT_LIMIT.true,
    )

pub returns : goal.returns
unfolding sheet_limit user_limit grant_limit
returns c =
    rw (
      lines_number c.args.s.now c.read_line-head.result c.if-s-gt-SHEET_LIMIT.false (c.if-has_bad_bytes.ensures)
          c.read_line-head.ensures c.read_body-body.result (c.if-not-good_first_line.ensures)
          c.read_body-body.ensures,
      ← c.if-not-is_within.ensures,
      c.if-not-head.false,
      c.if-not-body.false,
      c.if-not-body-2.false,
      c.if-not-body-3.false,
      ← c.if-has_name_twice.ensures,
      le-ltb _ _ c.if-body-gt-GRANT_LIMIT.false,
    )
