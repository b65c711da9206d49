-- `session::Session::load`: a refused sheet is answered by its number and leaves the session. An accepted one is then the
-- session's, and is answered by its counts.
use Rattle.std.proofs.Common.{◌≡◌, sym, ◌∙◌}
use Rattle.checker.specs.Laws.CheckSteps.{number_some}
use Rattle.session.specs.Laws.Loading.{refused_loads, accepted_loads}
use Rattle.session.proofs.Session.load.Goals as goal

pub returns-in-Err-clause-loads : goal.returns-in-Err-clause-loads
returns-in-Err-clause-loads c =
    let refused = c.in-Err.refusal in
    refused_loads _ _ (c.number.ensures ∙ c.in-Err.ensures.number_value)
    (λ zero. number_some refused (sym c.number.ensures ∙ zero)) c.refused.ensures

pub returns-in-Ok-clause-loads : goal.returns-in-Ok-clause-loads
returns-in-Ok-clause-loads c =
    accepted_loads _ _ (sym c.in-Ok.ensures.number_value) c.holding.ensures.counts c.holding.ensures.held
