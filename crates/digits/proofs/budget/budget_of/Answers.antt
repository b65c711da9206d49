-- `budget::budget_of`: what was read is the budget, and where nothing was it is 0.
use Rattle.std.proofs.Common.{◌≡◌, ℕ, refl, ap, ◌∙◌}
use Rattle.std.specs.Prelude.{Option, Some, None}
use Rattle.std.specs.Option.{unwrap_or}
use Rattle.digits.specs.BudgetRead.{budget_said, budget_is_said}
use Rattle.digits.proofs.budget.budget_of.Goals as goal

said : (o : Option ℕ) → unwrap_or o 0 ≡ budget_said o
said (Some n) = refl
said None = refl

pub returns : goal.returns
returns c =
    c.unwrap_or.ensures ∙ said c.read_budget.result ∙ ap budget_said c.read_budget.ensures
    ∙ budget_is_said c.args.word.now
