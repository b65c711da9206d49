-- `first::shares_of`: the shares of the first users are put in one after the other.
use Rattle.witness.specs.FirstCounts.{SharesOf}
use Rattle.witness.proofs.first.shares_of.Given as goal

abbrev pub invariant-loop-u : goal.invariant-loop-u
invariant-loop-u l = SharesOf l.rows l.left l.v.0 l.u l.shares
