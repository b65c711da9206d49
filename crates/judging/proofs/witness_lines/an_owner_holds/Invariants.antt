-- `judging::an_owner_holds`: the positions that are left are the permissions still to be looked at.
use Rattle.std.proofs.Common.{◌≡◌}
use Rattle.judging.specs.NotedLines.{OwnersWithin, some_owner}
use Rattle.judging.proofs.witness_lines.an_owner_holds.Given as goal

abbrev pub invariant-loop-p : goal.invariant-loop-p
invariant-loop-p l =
    OwnersWithin l.rows l.owners l.first.0 l.p-iterator.left
    × (some_owner l.rows l.owners l.first.0 l.permission.0 l.p-iterator.left
    ≡ some_owner l.rows l.owners l.first.0 l.permission.0 l.some)
