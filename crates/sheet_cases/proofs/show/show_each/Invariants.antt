-- `show::show_each`: each sheet ends behind where it starts, and within the table.
use Rattle.std.proofs.Common.{◌-◌, length}
use Rattle.sheet_cases.proofs.show.show_each.Given as goal

abbrev pub decreases-loop-at : goal.decreases-loop-at
decreases-loop-at l = length l.table - l.at
