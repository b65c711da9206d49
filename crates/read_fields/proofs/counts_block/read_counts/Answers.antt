-- `counts_block::read_counts`: the line of names, the two counts, the state and the empty line, one after the other.
use Rattle.standing.specs.StandingCases.{standing_case}
use Rattle.steps.specs.Laws.Step.{misses_first}
use Rattle.read_fields.specs.CountSteps.{after_heading, no_bound, no_state, no_empty_line}
use Rattle.read_fields.proofs.counts_block.read_counts.Goals as goal

pub returns-in_err-first : goal.returns-in_err-first
returns-in_err-first c =
    rw c.from_residual.ensures
    (λ role_digits bound_digits s p q.
    misses_first (after_heading role_digits bound_digits s) c.in_err-first.ensures)

pub returns-in_err-bound : goal.returns-in_err-bound
returns-in_err-bound c =
    rw c.from_residual-in_err-bound.ensures
    (no_bound c.in_ok-first.ensures c.in_ok-roles.ensures c.in_err-bound.ensures)

pub returns-in_err-standing : goal.returns-in_err-standing
returns-in_err-standing c =
    rw c.from_residual-in_err-standing.ensures
    (no_state c.in_ok-first.ensures c.in_ok-roles.ensures c.in_ok-bound.ensures c.in_err-standing.ensures)

pub returns-in_err-next : goal.returns-in_err-next
returns-in_err-next c =
    rw c.from_residual-in_err-next.ensures
    (no_empty_line c.in_ok-first.ensures c.in_ok-roles.ensures c.in_ok-bound.ensures
    (standing_case c.in_ok-standing.standing) c.in_ok-standing.ensures c.in_err-next.ensures)
