-- `row::put_word`: the cells are written four by four as far as that goes, and then one by one: where the cells
-- below i are written, a turn writes cell i behind them.
use Rattle.std.proofs.Common.{ℕ, ◌*◌, ◌/◌, arith, ap, sym}
use Rattle.bits.specs.Bit.{bit}
use Rattle.lists.specs.Listed.{listed_even}
use Rattle.cell_text.specs.CellsText.{cell_field}
use Rattle.cell_text.specs.Laws.CellsWritten.{cell_field_length}
use Rattle.cell_text.specs.Laws.Parts.{part_ready, part_written}
use Rattle.text.specs.Written.{fits_as, room_behind, written_as}
use Rattle.cell_text.proofs.row.put_word.Goals as goal

-- there is room for a front of them
pub put_fours-at-requires-clause-fours_in_bounds : goal.put_fours-at-requires-clause-fours_in_bounds
put_fours-at-requires-clause-fours_in_bounds c =
    let part = λ (p : ℕ). cell_field (bit c.args.word p) in
    let even = λ (p : ℕ). cell_field_length (bit c.args.word p) in
    omega (
      arith,
      c.requires.count_in_bounds,
      listed_even (4 * (c.args.count / 4)) 2 part (λ p k. even p),
      listed_even c.args.count 2 part (λ p k. even p),
    )

pub put_cell-at-requires : goal.put_cell-at-requires
put_cell-at-requires c =
    fits_as (ap cell_field (sym c.has-cell.ensures)) (room_behind (part_ready c.loop-i.invariant c.loop-i-test.true))

pub loop-i-preserved : goal.loop-i-preserved
loop-i-preserved c =
    part_written c.loop-i.invariant c.loop-i-test.true (written_as (ap cell_field c.has-cell.ensures)
    c.put_cell-at.ensures)
