-- `line::read_line`: the loop reads the line field by field (`Reading`), and each field starts at a later place than
-- the one before.
use Rattle.std.proofs.Common.{◌-◌, length}
use Rattle.std.specs.Prelude.{suc}
use Rattle.refusal.specs.Laws.ReadLine.{Reading}
use Rattle.refusal.proofs.line.read_line.Given as goal

abbrev pub invariant-loop-field : goal.invariant-loop-field
invariant-loop-field l = Reading l.s l.at l.cells l.field.last l.field.next.at

abbrev pub decreases-loop-field : goal.decreases-loop-field
decreases-loop-field l = suc (length l.s) - l.field.next.at
