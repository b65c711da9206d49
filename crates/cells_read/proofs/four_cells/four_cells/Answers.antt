-- `four_cells::four_cells`: the eight bytes are read from the text, and what their number sets says the cells.
use Rattle.std.proofs.Common.{◌∙◌}
use Rattle.bits.specs.Bit.{bit}
use Rattle.cells_read.specs.FourRead.{word_small, word_alone, none_set}
use Rattle.cells_read.specs.Laws.FourRead.{four_stands, four_off}
use Rattle.cells_read.proofs.four_cells.four_cells.Goals as goal

pub returns-in_err-set-clause-cells : goal.returns-in_err-set-clause-cells
returns-in_err-set-clause-cells c =
    rw c.from_residual.ensures (four_off _ _ _ c.eight_bytes.ensures c.in_err-set.ensures)

pub side_by_side-requires : goal.side_by_side-requires
side_by_side-requires c = (c.in_ok-set.ensures.1, none_set)

pub returns-clause-small : goal.returns-clause-small
returns-clause-small c =
    let set = c.in_ok-set.set in
    rw (c.side_by_side.ensures ∙ word_alone set) (word_small (bit set 8) (bit set 24) (bit set 40) (bit set 56))

pub returns-clause-cells : goal.returns-clause-cells
returns-clause-cells c =
    let set = c.in_ok-set.set in
    rw (c.side_by_side.ensures ∙ word_alone set)
    (four_stands _ _ _ c.eight_bytes.ensures c.requires set c.in_ok-set.ensures.0 c.in_ok-set.ensures.1)
