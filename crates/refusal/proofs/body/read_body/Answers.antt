-- `body::read_body`: one more line is read, and past the last one all are.
use Rattle.refusal.specs.Laws.Body.{body_starts, body_goes_on, body_ends}
use Rattle.refusal.proofs.body.read_body.Goals as goal

pub loop-from-init : goal.loop-from-init
loop-from-init c = rw c.none-body.ensures (body_starts c.args.s.now c.args.at c.args.width c.requires)

pub loop-from-preserved : goal.loop-from-preserved
loop-from-preserved c =
    rw (c.with-body.ensures, c.name_length.ensures)
    (body_goes_on c.args.s.now c.args.at c.args.width c.loop-from.body c.loop-from.from c.read_line-line.result
    c.loop-from.invariant c.loop-from-test.true c.read_line-line.ensures)

pub returns : goal.returns
returns c =
    body_ends c.args.s.now c.args.at c.args.width c.loop-from.body c.loop-from.from c.loop-from.invariant
    c.loop-from-test.false
