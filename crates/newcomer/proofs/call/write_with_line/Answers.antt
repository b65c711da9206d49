-- `call::write_with_line`: the sheet is judged first, then the line that is added to it.
use Rattle.std.proofs.Common.{sym, refl}
use Rattle.std.proofs.lemmas.Result.{err_from_is_err_and}
use Rattle.spec.specs.Newcomer.{Admission}
use Rattle.checker.specs.Laws.CheckSteps.{number_some}
use Rattle.newcomer.specs.Laws.Numbers.{sheet_refuses, line_refuses, refused_by}
use Rattle.newcomer.proofs.call.write_with_line.Goals as goal

pub returns-in_err-read : goal.returns-in_err-read
returns-in_err-read c =
    let lent : Admission = record { sheet = c.args.sheet.now; book = c.args.book.now; line = c.args.line.now } in
    let refuses = number_some c.in_err-read.field-0.0 in
    let p = err_from_is_err_and c.from_residual.result c.from_residual.ensures.1 in
    rw (p.1, p.2)
    (refused_by lent c.args.out.now (sheet_refuses lent c.args.out.now c.in_err-read.ensures.number_value refuses)
    refuses refl)

pub returns-in_err-judge_line : goal.returns-in_err-judge_line
returns-in_err-judge_line c =
    let lent : Admission = record { sheet = c.args.sheet.now; book = c.args.book.now; line = c.args.line.now } in
    let refuses = number_some c.in_err-judge_line.field-0.0 in
    let p = err_from_is_err_and c.from_residual-in_err-judge_line.result
    c.from_residual-in_err-judge_line.ensures.1 in
    rw (p.1, p.2)
    (refused_by lent c.args.out.now
    (line_refuses lent c.args.out.now (sym c.in_ok-read.ensures.number_value) c.in_err-judge_line.ensures refuses)
    refuses refl)
