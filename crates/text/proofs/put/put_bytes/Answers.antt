-- `put::put_bytes`: a turn writes one byte more, and after the last one all are written.
use Rattle.std.specs.Prelude.{◌≡◌, length}
use Rattle.std.proofs.Common.{arith, take_all}
use Rattle.text.specs.Written.{nothing_written, copied_byte}
use Rattle.text.proofs.put.put_bytes.Goals as goal

pub loop-i-init : goal.loop-i-init
loop-i-init c = nothing_written _

pub loop-i-preserved : goal.loop-i-preserved
loop-i-preserved c = copied_byte c.args.bytes.now c.loop-i.i (omega arith) (omega arith) c.loop-i.invariant

pub returns : goal.returns
returns c =
    let all : c.loop-i.i ≡ length c.args.bytes.now = omega arith in
    rw (all, take_all (length c.args.bytes.now) c.args.bytes.now (omega arith)) at c.loop-i.invariant
