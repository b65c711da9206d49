-- `roles::word_roles`: the positions left are the grants of the word still to come.
use Rattle.roles.specs.Laws.RoleWalk.{WordTo}
use Rattle.roles.proofs.rows.word_roles.Given as goal

abbrev pub invariant-loop-p : goal.invariant-loop-p
invariant-loop-p l = WordTo l.rows l.class l.i l.p-iterator.left l.table l.has l.gives l.known
