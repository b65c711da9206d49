-- `counts::take_off_for_users`: the counts of the users at the positions that are left are still as they were.
use Rattle.std.proofs.Common.{◌-◌}
use Rattle.witness.specs.CountChange.{fit_count, of_users}
use Rattle.witness.specs.Laws.CountChange.{Changing}
use Rattle.witness.proofs.counts.take_off_for_users.Given as goal

abbrev pub invariant-loop-p : goal.invariant-loop-p
invariant-loop-p l =
    Changing (of_users l.left l.j l.some) (of_users l.left l.j l.p-iterator.left)
    (λ n count. count - fit_count l.rows l.these.user.0 l.these.words n) l.initial.counts l.counts
