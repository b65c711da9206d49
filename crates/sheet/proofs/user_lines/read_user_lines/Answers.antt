-- `user_lines::read_user_lines`: one more line stands behind those read so far; and lines that stand there are read.
use Rattle.std.proofs.Common.{arith, add-one}
use Rattle.spec.specs.Limits.{sheet_limit, user_limit}
use Rattle.bits.specs.Laws.Count.{count_below_le}
use Rattle.cell_rows.specs.Rows.{row_words, row_bits, cell}
use Rattle.sheet.specs.Laws.UserLinesFound.{few_left, left_next, no_line_left}
use Rattle.sheet.specs.Laws.UserLines.{lines_start, few_ones, next_blank, lines_more}
use Rattle.sheet.proofs.user_lines.read_user_lines.Goals as goal

pub loop-at-init : goal.loop-at-init
loop-at-init c = (
  lines_start c.args.s.now c.args.start c.args.width c.args.places.now c.args.rows.now c.requires.0 c.requires.3,
  λ names rows fit e. e,
)

pub returns-then-users-eq-USER_LIMIT : goal.returns-then-users-eq-USER_LIMIT
unfolding user_limit
returns-then-users-eq-USER_LIMIT c names rows fit e =
    let below = few_left c.args.s.now c.args.start c.args.width c.loop-at.users c.loop-at.at c.loop-at.invariant.1
    c.loop-at-test.true names rows fit e in
    omega arith

pub read_user_line-requires : goal.read_user_line-requires
unfolding user_limit row_words
read_user_line-requires c = (
  omega arith,
  c.requires.1,
  omega (arith, c.loop-at.invariant.0.few, c.loop-at.invariant.0.words_room),
  next_blank c.loop-at.rows c.loop-at.users c.loop-at.invariant.0.beyond,
)

pub returns-in_err-line : goal.returns-in_err-line
returns-in_err-line c =
    rw c.from_residual.ensures
    (no_line_left c.args.s.now c.args.start c.args.width c.loop-at.users c.loop-at.at c.loop-at.invariant.1
    c.loop-at-test.true c.in_err-line.ensures)

pub place_of-requires : goal.place_of-requires
unfolding sheet_limit
place_of-requires c =
    (omega (arith, c.requires.2), omega (arith, c.requires.2, c.in_ok-line.ensures.name.within))

pub overflow_add-grants : goal.overflow_add-grants
unfolding user_limit row_bits row_words
overflow_add-grants c =
    omega (
      arith,
      c.loop-at.invariant.0.few,
      c.loop-at.invariant.0.counted,
      few_ones c.args.width c.loop-at.rows c.loop-at.users c.requires.1,
      c.cells_set-grants.ensures,
      count_below_le row_bits (cell c.read_user_line.new.rows c.loop-at.users),
    )

pub loop-at-preserved : goal.loop-at-preserved
unfolding sheet_limit user_limit
loop-at-preserved c = (
  rw (add-one, c.cells_set-grants.ensures, c.place_of.ensures)
      (lines_more c.args.s.now c.args.start c.args.width c.loop-at.places c.loop-at.rows c.read_user_line.new.rows
      c.loop-at.users c.loop-at.grants c.loop-at.at c.loop-at.invariant.0 c.requires.1
      c.read_user_line.auto.rows (omega (arith, c.requires.2)) (omega (arith, c.loop-at.invariant.0.few))
      c.in_ok-line.line c.in_ok-line.ensures),
  rw add-one
      (left_next c.args.s.now c.args.start c.args.width c.loop-at.users c.loop-at.at c.loop-at.invariant.1
      c.loop-at-test.true c.in_ok-line.line c.in_ok-line.ensures),
)
