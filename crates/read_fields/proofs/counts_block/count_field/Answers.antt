-- `counts_block::count_field`: what stands before the first comma is no count.
use Rattle.read_fields.specs.CountSteps.{no_count}
use Rattle.read_fields.proofs.counts_block.count_field.Goals as goal

pub returns-in_err-n : goal.returns-in_err-n
returns-in_err-n c = rw c.from_residual-in_err-n.ensures (no_count c.in_ok-to.ensures c.in_err-n.ensures)
