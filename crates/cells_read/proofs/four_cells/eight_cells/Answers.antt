-- `four_cells::eight_cells`: twice four cells, the second four behind the first.
use Rattle.std.proofs.Common.{arith, ◌+◌}
use Rattle.cells_read.specs.FourRead.{words_small}
use Rattle.cells_read.specs.Laws.FourRead.{four_stands, four_off, eight_stand, stand_first, stand_from}
use Rattle.cells_read.proofs.four_cells.eight_cells.Goals as goal

pub returns-in_err-first-clause-cells : goal.returns-in_err-first-clause-cells
returns-in_err-first-clause-cells c =
    rw c.from_residual.ensures
    (λ ones stand. four_off _ _ _ c.eight_bytes.ensures c.in_err-first.ensures ones (stand_first 4 (omega arith) stand))

pub returns-in_err-second-clause-cells : goal.returns-in_err-second-clause-cells
returns-in_err-second-clause-cells c =
    rw c.from_residual-in_err-second.ensures
    (λ ones stand. four_off _ _ _ c.eight_bytes-2.ensures c.in_err-second.ensures (λ j. ones (4 + j))
    (stand_from 4 4 _ (omega arith) (omega arith) stand))

pub returns-clause-small : goal.returns-clause-small
returns-clause-small c = rw c.side_by_side.ensures (words_small c.in_ok-first.first c.in_ok-second.second)

pub returns-clause-cells : goal.returns-clause-cells
returns-clause-cells c =
    let first = c.in_ok-first.ensures in
    let second = c.in_ok-second.ensures in
    rw c.side_by_side.ensures
    (eight_stand _ _ _ _
    (four_stands _ _ _ c.eight_bytes.ensures (omega arith) c.in_ok-first.first first.0 first.1)
    (four_stands _ _ _ c.eight_bytes-2.ensures (omega arith) c.in_ok-second.second second.0 second.1))
