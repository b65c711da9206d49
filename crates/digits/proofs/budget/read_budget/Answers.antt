-- `budget::read_budget`: no digit is no number, and else the digits say it, which are read up to one past the
-- greatest.
use Rattle.std.proofs.Common.{arith, sym, ap, ◌∙◌, lt-ltb, le-ltb}
use Rattle.digits.specs.BudgetRead.{budget_cap, budget_within, no_digits, as_digits_say}
use Rattle.digits.proofs.budget.read_budget.Goals as goal

pub returns-then-word-eq0 : goal.returns-then-word-eq0
returns-then-word-eq0 c = sym (no_digits c.args.word.now (omega arith))

pub returns-in_err-n : goal.returns-in_err-n
unfolding budget_cap
returns-in_err-n c =
    c.from_residual.ensures
    ∙ ap budget_within c.in_err-n.ensures
    ∙ sym (as_digits_say c.args.word.now (λ z. omega arith))

pub returns-then-n-lt-BUDGET_CAP : goal.returns-then-n-lt-BUDGET_CAP
unfolding budget_cap
returns-then-n-lt-BUDGET_CAP c =
    rw (lt-ltb _ _ c.if-n-lt-BUDGET_CAP.true) at
    (ap budget_within c.in_ok-n.ensures ∙ sym (as_digits_say c.args.word.now (λ z. omega arith)))

pub returns-else-n-lt-BUDGET_CAP : goal.returns-else-n-lt-BUDGET_CAP
unfolding budget_cap
returns-else-n-lt-BUDGET_CAP c =
    rw (le-ltb _ _ c.if-n-lt-BUDGET_CAP.false) at
    (ap budget_within c.in_ok-n.ensures ∙ sym (as_digits_say c.args.word.now (λ z. omega arith)))
