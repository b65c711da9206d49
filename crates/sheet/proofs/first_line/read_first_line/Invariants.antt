-- `first_line::read_first_line`: the loop reads a name behind a comma a turn (`NamesNoted`), and leaves the others
-- (`NamesLeft`). The place rises to the line feed.
use Rattle.std.proofs.Common.{◌-◌, length}
use Rattle.sheet.specs.Laws.FirstLine.{NamesNoted}
use Rattle.sheet.specs.Laws.FirstLineFound.{NamesLeft}
use Rattle.sheet.proofs.first_line.read_first_line.Given as goal

abbrev pub invariant-loop-count : goal.invariant-loop-count
invariant-loop-count l = NamesNoted l.s l.places l.count l.at × NamesLeft l.s l.count l.at

abbrev pub decreases-loop-count : goal.decreases-loop-count
decreases-loop-count l = length l.s - l.at
