-- `witness_block::witness_lines`: the lines up to `next` have been read.
use Rattle.std.proofs.Common.{◌-◌, length}
use Rattle.spec.specs.Sheet.{sheet_of}
use Rattle.read_fields.specs.WitnessSteps.{LinesRead}
use Rattle.read_fields.proofs.witness_block.witness_lines.Given as goal

abbrev pub invariant-loop-next : goal.invariant-loop-next
invariant-loop-next l = LinesRead (sheet_of l.sheet) l.book l.fn.at l.witness l.next

abbrev pub decreases-loop-next : goal.decreases-loop-next
decreases-loop-next l = length l.book - l.next
