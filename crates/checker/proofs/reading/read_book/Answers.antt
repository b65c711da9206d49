-- `reading::read_book`: a book above the limit is refused, and one that is not of the form; the others are judged.
use Rattle.std.proofs.Common.{◌≡◌, ◌≤◌, length, refl, arith}
use Rattle.std.proofs.lemmas.Result.{err_from_is_err_and}
use Rattle.spec.specs.Limits.{book_limit, user_limit, role_limit}
use Rattle.spec.specs.Sheet.{sheet_of}
use Rattle.numbers.specs.declared.refusal.Refusal.TheVariants.{BookForm}
use Rattle.cell_rows.specs.Rows.{row_words}
use Rattle.checker.specs.BlocksRead.{something_said}
use Rattle.checker.specs.Laws.CheckSteps.{rows_within, users_within, refused_too_long, refused_for_form}
use Rattle.checker.specs.Laws.JudgedRead.{judged_as_checked, accepted_as_read}
use Rattle.checker.proofs.reading.read_book.Goals as goal

pub returns-then-book-gt-BOOK_LIMIT-clause-checks : goal.returns-then-book-gt-BOOK_LIMIT-clause-checks
unfolding book_limit
returns-then-book-gt-BOOK_LIMIT-clause-checks c =
    refused_too_long c.requires.laid_out.0.accepts (omega (arith, c.if-book-gt-BOOK_LIMIT.true))

pub returns-in_err-read-clause-checks : goal.returns-in_err-read-clause-checks
returns-in_err-read-clause-checks c =
    let none = c.in_err-read.ensures.ok_part in
    let cause : c.in_err-read.field-0.0 ≡ BookForm = grind arith in
    let p = err_from_is_err_and c.from_residual.result c.from_residual.ensures.1 in
    rw (p.1, p.2, cause)
    (refused_for_form c.requires.laid_out.0.accepts (rw none at c.read_blocks.ensures))

pub judge_book-requires-clause-book_says : goal.judge_book-requires-clause-book_says
unfolding book_limit
judge_book-requires-clause-book_says c =
    let all = rw c.in_ok-read.ensures.ok_part at c.read_blocks.ensures in
    something_said (sheet_of c.args.sheet.now) all.front _ all.users all.last
    (omega (arith, c.if-book-gt-BOOK_LIMIT.false))

pub judge_book-requires-clause-row_words_in_bounds : goal.judge_book-requires-clause-row_words_in_bounds
unfolding user_limit role_limit row_words
judge_book-requires-clause-row_words_in_bounds c =
    let all = rw c.in_ok-read.ensures.ok_part at c.read_blocks.ensures in
    let laid = c.requires.laid_out.0 in (
      users_within laid _ c.told-rows,
      users_within laid _ c.read_blocks.array_long,
      rows_within c.in_ok-read.read.roles role_limit _ all.front.roles_at.few
          (omega (arith, c.read_blocks.array_long2)),
    )

pub returns-in_err-judge_book-clause-checks : goal.returns-in_err-judge_book-clause-checks
unfolding book_limit
returns-in_err-judge_book-clause-checks c =
    let all = rw c.in_ok-read.ensures.ok_part at c.read_blocks.ensures in
    let short : length c.args.book.now ≤ book_limit = omega (arith, c.if-book-gt-BOOK_LIMIT.false) in
    let p = err_from_is_err_and c.from_residual-in_err-judge_book.result
    c.from_residual-in_err-judge_book.ensures.1 in
    rw (p.1, p.2)
    (judged_as_checked c.args.sheet.now c.requires.laid_out.0.accepts short all c.in_err-judge_book.ensures)

pub returns-clause-checks : goal.returns-clause-checks
unfolding book_limit
returns-clause-checks c =
    let all = rw c.in_ok-read.ensures.ok_part at c.read_blocks.ensures in
    let short : length c.args.book.now ≤ book_limit = omega (arith, c.if-book-gt-BOOK_LIMIT.false) in
    judged_as_checked c.args.sheet.now c.requires.laid_out.0.accepts short all c.in_ok-judge_book.ensures

pub returns-clause-read_as : goal.returns-clause-read_as
unfolding book_limit
returns-clause-read_as c =
    let all = rw c.in_ok-read.ensures.ok_part at c.read_blocks.ensures in
    let short : length c.args.book.now ≤ book_limit = omega (arith, c.if-book-gt-BOOK_LIMIT.false) in
    accepted_as_read c.args.sheet.now c.requires.laid_out.0.accepts short all c.in_ok-judge_book.ensures refl
