-- `put::put_bytes`: where i bytes are copied, the first i bytes are written.
use Rattle.std.specs.Prelude.{take}
use Rattle.text.specs.Written.{Written}
use Rattle.text.proofs.put.put_bytes.Given as goal

abbrev pub invariant-loop-i : goal.invariant-loop-i
invariant-loop-i l = Written (take l.i l.bytes) l.initial.out l.out l.i
