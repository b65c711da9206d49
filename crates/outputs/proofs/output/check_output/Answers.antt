-- `output::check_output`: the line is that of the answer, and a line of two numbers of the machine has room in the
-- buffer.
use Rattle.std.proofs.Common.{rules, arith, ◌≡◌, length}
use Rattle.text.specs.Written.{written_as}
use Rattle.outputs.specs.CheckOutput.{confirmed_line, refused_line}
use Rattle.outputs.specs.Lines.{number_line_length, pair_line_length}
use Rattle.outputs.proofs.output.check_output.Goals as goal

pub put_pair_line-requires : goal.put_pair_line-requires
put_pair_line-requires c =
    let answer = c.porvuund_check-answer.result in
    let room : length c.args.out.now ≡ 64 = search rules in
    omega (arith, pair_line_length answer.roles answer.witness_lines (search rules) (search rules))

pub returns-then-answer-eq0 : goal.returns-then-answer-eq0
returns-then-answer-eq0 c =
    written_as
    (confirmed_line c.args.sheet.now c.args.book.now c.porvuund_check-answer.ensures c.if-answer-eq0.true)
    c.put_pair_line.ensures

pub put_number_line-requires : goal.put_number_line-requires
put_number_line-requires c =
    let room : length c.args.out.now ≡ 64 = search rules in
    omega (arith, number_line_length c.porvuund_check-answer.result.number (search rules))

pub returns : goal.returns
returns c =
    written_as
    (refused_line c.args.sheet.now c.args.book.now c.porvuund_check-answer.ensures c.if-answer-eq0.false)
    c.put_number_line.ensures
