-- `output::newcomer_output`: the call leaves the new book at the front of the buffer, or leaves the buffer for the
-- number.
use Rattle.std.proofs.Common.{rules, arith, ◌≡◌, length, sym}
use Rattle.spec.specs.Limits.{book_limit}
use Rattle.spec.specs.Newcomer.{Admission}
use Rattle.text.specs.Written.{written_as}
use Rattle.outputs.specs.Laws.NewcomerPrinted.{newcomer_written, newcomer_refused}
use Rattle.outputs.specs.Lines.{number_line_length}
use Rattle.outputs.proofs.output.newcomer_output.Goals as goal

pub returns-then-admitted-eq0 : goal.returns-then-admitted-eq0
unfolding book_limit
returns-then-admitted-eq0 c =
    let lent : Admission =
    record { sheet = c.args.sheet.now; book = c.args.book.now; line = c.args.line.now } in
    let room : length c.args.out.now ≡ 131_072 = search rules in
    newcomer_written lent c.args.out.now room c.porvuund_newcomer-admitted.ensures c.if-admitted-eq0.true

pub put_number_line-requires : goal.put_number_line-requires
put_number_line-requires c =
    let room : length c.porvuund_newcomer-admitted.new.out ≡ 131_072 = search rules in
    omega (arith, number_line_length c.porvuund_newcomer-admitted.result.number (search rules))

pub returns : goal.returns
unfolding book_limit
returns c =
    let lent : Admission =
    record { sheet = c.args.sheet.now; book = c.args.book.now; line = c.args.line.now } in
    let room : length c.args.out.now ≡ 131_072 = search rules in
    let refused =
    newcomer_refused lent c.args.out.now room c.porvuund_newcomer-admitted.ensures c.if-admitted-eq0.false in
    written_as (sym refused.0) (rw refused.1 at c.put_number_line.ensures)
