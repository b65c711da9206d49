-- `budget::rounds_of`: the budget that the word gives is the number of searches, and where it is 0 the usual one is.
use Rattle.std.proofs.Common.{arith, ◌∙◌}
use Rattle.spec.specs.Limits.{usual_rounds}
use Rattle.digits.specs.BudgetRead.{usual_where_none, rounds_are_the_budget}
use Rattle.digits.proofs.budget.rounds_of.Goals as goal

pub returns-then-n-eq0 : goal.returns-then-n-eq0
unfolding usual_rounds
returns-then-n-eq0 c = usual_where_none c.args.word.now (omega arith)

pub returns-else-n-eq0 : goal.returns-else-n-eq0
returns-else-n-eq0 c =
    c.budget_of-n.ensures ∙ rounds_are_the_budget c.args.word.now (λ z. omega arith)
