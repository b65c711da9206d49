-- `four_cells::fours_word`: the eights are read, and where the number of fours is odd the last four behind them.
use Rattle.std.proofs.Common.{arith, ◌≡◌, ◌+◌, ◌*◌, ◌/◌}
use Rattle.cells_read.specs.Laws.FourRead.{cells_behind, stand_first, stand_from}
use Rattle.cells_read.proofs.four_cells.fours_word.Goals as goal

pub returns-in_err-word : goal.returns-in_err-word
returns-in_err-word c =
    rw c.from_residual.ensures
    (λ ones stand. c.in_err-word.ensures ones (stand_first (8 * (c.args.fours / 2)) (omega arith) stand))

pub returns-in_err-last : goal.returns-in_err-last
returns-in_err-last c =
    let eights = c.args.fours / 2 in
    rw c.from_residual-in_err-last.ensures
    (λ ones stand. c.in_err-last.ensures.cells (λ j. ones (8 * eights + j))
    (stand_from (8 * eights) 4 _ (omega arith) (omega arith) stand))

pub returns : goal.returns
returns c =
    let eights = c.args.fours / 2 in
    let all : 4 * c.args.fours ≡ 8 * eights + 4 = omega arith in
    rw all
    (cells_behind c.args.s.now c.args.at (8 * eights) (c.args.at + 16 * eights) 4 c.in_ok-word.word c.in_ok-last.last
    c.in_ok-word.ensures c.in_ok-last.ensures.cells (omega arith) c.in_ok-last.ensures.small (omega arith))
