-- `space::patterned`: the bytes below i are of the pattern.
use Rattle.play.specs.Space.{Patterned}
use Rattle.play.proofs.space.patterned.Given as goal

abbrev pub invariant-loop-i : goal.invariant-loop-i
invariant-loop-i l = Patterned l.space l.i
