-- `user_lines::read_user_lines`: the loop reads a line a turn (`LinesNoted`), and leaves the others (`LinesLeft`). The
-- place rises to the end of the text.
use Rattle.std.proofs.Common.{◌-◌, length}
use Rattle.sheet.specs.UserLines.{LinesNoted}
use Rattle.sheet.specs.Laws.UserLinesFound.{LinesLeft}
use Rattle.sheet.proofs.user_lines.read_user_lines.Given as goal

abbrev pub invariant-loop-at : goal.invariant-loop-at
invariant-loop-at l =
    LinesNoted l.s l.start l.width l.places l.rows l.users l.grants l.at × LinesLeft l.s l.start l.width l.users l.at

abbrev pub decreases-loop-at : goal.decreases-loop-at
decreases-loop-at l = length l.s - l.at
