-- `output::session_output`: the writing leaves the book at the front of the buffer, or leaves the buffer for the
-- number.
use Rattle.std.proofs.Common.{rules, arith, ◌≡◌, length, sym}
use Rattle.spec.specs.Limits.{book_limit}
use Rattle.text.specs.Written.{written_as}
use Rattle.session.specs.CodeSession.{view}
use Rattle.outputs.specs.Laws.Output.{session_written, session_refused}
use Rattle.outputs.specs.Lines.{number_line_length}
use Rattle.outputs.proofs.output.session_output.Goals as goal

pub returns-then-written-eq0 : goal.returns-then-written-eq0
unfolding book_limit
returns-then-written-eq0 c =
    let room : length c.args.out.now ≡ 131_072 = search rules in
    session_written (view c.args.session) book_limit c.args.out.now room c.write-written.ensures.answers
    c.write-written.ensures.fills c.if-written-eq0.true

pub put_number_line-requires : goal.put_number_line-requires
put_number_line-requires c =
    let room : length c.write-written.new.out ≡ 131_072 = search rules in
    omega (arith, number_line_length c.write-written.result.number (search rules))

pub returns : goal.returns
unfolding book_limit
returns c =
    let room : length c.args.out.now ≡ 131_072 = search rules in
    let refused = session_refused (view c.args.session) book_limit c.args.out.now room
    c.write-written.ensures.answers c.write-written.ensures.fills c.if-written-eq0.false in
    written_as (sym refused.0) (rw refused.1 at c.put_number_line.ensures)
