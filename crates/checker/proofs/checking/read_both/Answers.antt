-- `checking::read_both`: the sheet's own number where it is refused, and else what is found of the book, which is read
-- into rows that are blank.
use Rattle.std.proofs.Common.{◌*◌, refl}
use Rattle.std.proofs.lemmas.Result.{err_from_is_err_and}
use Rattle.spec.specs.Limits.{user_limit, role_limit}
use Rattle.cell_rows.specs.Rows.{row_words}
use Rattle.form.specs.RowSteps.{zeros_blank}
use Rattle.checker.specs.Laws.CheckSteps.{number_some, refused_for_sheet}
use Rattle.checker.proofs.checking.read_both.Goals as goal

pub returns-in_err-read : goal.returns-in_err-read
returns-in_err-read c =
    let p = err_from_is_err_and c.from_residual.result c.from_residual.ensures.1 in
    rw (p.1, p.2)
    (refused_for_sheet c.in_err-read.ensures.number_value (number_some c.in_err-read.field-0.0) refl)

pub read_book-requires-clause-all_blank : goal.read_book-requires-clause-all_blank
unfolding role_limit row_words
read_book-requires-clause-all_blank c = (
  rw c.no_rows-has.ensures (zeros_blank (user_limit * row_words)),
  zeros_blank (role_limit * row_words),
)
