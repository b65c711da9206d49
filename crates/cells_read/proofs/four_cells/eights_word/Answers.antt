-- `four_cells::eights_word`: eight cells more stand behind those before, or no such cells stand.
use Rattle.std.proofs.Common.{arith, ◌≡◌, ◌+◌, ◌*◌}
use Rattle.cells_read.specs.Laws.CellsWord.{cells_start}
use Rattle.cells_read.specs.Laws.FourRead.{cells_behind, stand_from}
use Rattle.cells_read.proofs.four_cells.eights_word.Goals as goal

pub loop-i-init : goal.loop-i-init
loop-i-init c = cells_start c.args.s.now c.args.at (omega arith)

pub returns-in_err-eight : goal.returns-in_err-eight
returns-in_err-eight c =
    let i = c.loop-i.i in
    rw c.from_residual.ensures
    (λ ones stand. c.in_err-eight.ensures.cells (λ j. ones (8 * i + j))
    (stand_from (8 * i) 8 (c.args.at + 16 * i) (omega arith) (omega arith) stand))

pub loop-i-preserved : goal.loop-i-preserved
loop-i-preserved c =
    let i = c.loop-i.i in
    let more : 8 * (i + 1) ≡ 8 * i + 8 = omega arith in
    rw more
    (cells_behind c.args.s.now c.args.at (8 * i) (c.args.at + 16 * i) 8 c.loop-i.word c.in_ok-eight.eight
    c.loop-i.invariant c.in_ok-eight.ensures.cells (omega arith) c.in_ok-eight.ensures.small (omega arith))
