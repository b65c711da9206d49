-- `class_for`: the classes from the next try on are looked through, and those before are not open to the grant.
use Rattle.std.proofs.Common.{ℕ, ◌≡◌, ◌<◌, false}
use Rattle.moves.specs.OpenTo.{open_to}
use Rattle.moves.proofs.choice.class_for.Given as goal

abbrev pub invariant-loop-c : goal.invariant-loop-c
invariant-loop-c l = (q : ℕ) → q < l.c → open_to l.fit l.members l.fn.grant.0 l.next q ≡ false
