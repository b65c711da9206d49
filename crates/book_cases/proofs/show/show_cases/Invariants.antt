-- `show::show_cases`: each case starts behind the one before it.
use Rattle.std.proofs.Common.{◌-◌, length}
use Rattle.book_cases.proofs.show.show_cases.Given as goal

abbrev pub decreases-loop-at : goal.decreases-loop-at
decreases-loop-at g l = length l.cases - l.at
