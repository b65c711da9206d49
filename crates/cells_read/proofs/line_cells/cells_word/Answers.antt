-- `line_cells::cells_word`: no so many cells stand where no cells stand four by four.
use Rattle.std.proofs.Common.{arith, ◌*◌, ◌/◌}
use Rattle.cells_read.specs.Laws.FourRead.{stand_first}
use Rattle.cells_read.proofs.line_cells.cells_word.Goals as goal

pub returns-in_err-word : goal.returns-in_err-word
returns-in_err-word c =
    rw c.from_residual.ensures
    (λ ones stand. c.in_err-word.ensures ones (stand_first (4 * (c.args.count / 4)) (omega arith) stand))
