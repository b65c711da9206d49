-- `gathered`: no grant is placed at first, and each turn puts the next one in its class (`Gathered`).
use Rattle.moves.specs.Gathered.{Gathered}
use Rattle.moves.proofs.members.gathered.Given as goal

abbrev pub invariant-loop-i : goal.invariant-loop-i
invariant-loop-i l = Gathered l.classes l.i l.members
