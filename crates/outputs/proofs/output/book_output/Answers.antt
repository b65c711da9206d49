-- `output::book_output`: the call leaves the book at the front of the buffer, or leaves the buffer for the number.
use Rattle.std.proofs.Common.{rules, arith, ◌≡◌, length, sym}
use Rattle.spec.specs.Limits.{program_buffer}
use Rattle.text.specs.Written.{written_as}
use Rattle.outputs.specs.Laws.Output.{output_written, output_refused}
use Rattle.outputs.specs.Lines.{number_line_length}
use Rattle.outputs.proofs.output.book_output.Goals as goal

pub returns-then-answer-eq0 : goal.returns-then-answer-eq0
unfolding program_buffer
returns-then-answer-eq0 c =
    let room : length c.args.out.now ≡ 65_536 = search rules in
    output_written c.args.sheet.now c.args.word.now c.args.out.now room
    (rw c.budget_of-budget.ensures at c.porvuund_book-answer.ensures) c.if-answer-eq0.true

pub put_number_line-requires : goal.put_number_line-requires
put_number_line-requires c =
    let room : length c.porvuund_book-answer.new.out ≡ 65_536 = search rules in
    omega (arith, number_line_length c.porvuund_book-answer.result.number (search rules))

pub returns : goal.returns
unfolding program_buffer
returns c =
    let room : length c.args.out.now ≡ 65_536 = search rules in
    let refused = output_refused c.args.sheet.now c.args.word.now c.args.out.now room
    (rw c.budget_of-budget.ensures at c.porvuund_book-answer.ensures) c.if-answer-eq0.false in
    written_as (sym refused.0) (rw refused.1 at c.put_number_line.ensures)
