-- `line::read_line`: the cells, then the line feed; where one of them does not stand the row is cleared.
use Rattle.form.specs.RowCleared.{cleared_after}
use Rattle.form.specs.LineSteps.{no_cells, ended, no_end}
use Rattle.form.proofs.line.read_line.Goals as goal

pub returns-in_default : goal.returns-in_default
returns-in_default c =
    let none = rw c.in_default.is at c.read_cells.ensures in
    (no_cells c.args.count none.0, cleared_after none.1 c.clear_row.ensures)

pub returns-in_default-expect_byte : goal.returns-in_default-expect_byte
returns-in_default-expect_byte c = (
  no_end c.in-Some.ensures (rw c.in_default-expect_byte.is at c.expect_byte.ensures),
  cleared_after c.in-Some.ensures.grown.others c.clear_row-in_default-expect_byte.ensures,
)

pub returns : goal.returns
returns c = ended c.in-Some.ensures c.in-Some-expect_byte.ensures
