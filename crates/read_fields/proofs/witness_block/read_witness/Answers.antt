-- `witness_block::read_witness`: the line of names, then the lines to the end of the book.
use Rattle.spec.specs.Sheet.{sheet_of}
use Rattle.read_fields.specs.WitnessSteps.{no_witness_heading}
use Rattle.read_fields.proofs.witness_block.read_witness.Goals as goal

pub returns-in_err-lines : goal.returns-in_err-lines
returns-in_err-lines c =
    rw c.from_residual.ensures (no_witness_heading (sheet_of c.args.sheet.now) c.in_err-lines.ensures)
