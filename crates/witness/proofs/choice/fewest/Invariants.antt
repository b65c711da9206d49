-- `choice::fewest`: the walk passes the remaining grants in order, word by word, and keeps the best so far.
use Rattle.std.proofs.Common.{ℕ, ◌*◌, List}
use Rattle.bits.specs.Bit.{word_bits}
use Rattle.witness.specs.Counts.{Counted}
use Rattle.witness.specs.WitnessWalk.{Walked}
use Rattle.witness.proofs.choice.fewest.Given as goal

abbrev pub invariant-loop-i : goal.invariant-loop-i
invariant-loop-i l =
    (rows : List ℕ) → Counted rows l.left l.users l.counts → Walked rows l.left l.users l.best (l.i * word_bits)
