-- `lookup::find_between`: no number from `low` up to i is that of the name.
use Rattle.names.specs.FoundBetween.{StandsNowhere}
use Rattle.names.proofs.lookup.find_between.Given as goal

abbrev pub invariant-loop-i : goal.invariant-loop-i
invariant-loop-i l = StandsNowhere l.s l.places l.name l.low l.i
