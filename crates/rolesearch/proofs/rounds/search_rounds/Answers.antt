use native.Mathlib.Omega.{arith}
use Rattle.std.proofs.Common.{inl}
use Rattle.spec.specs.Limits.{round_budget}
use Rattle.session.specs.CodeSession.{view}
use Rattle.rolesearch.specs.Laws.GoingOn.{round_made, rounds_end}
use Rattle.rolesearch.proofs.rounds.search_rounds.Goals as goal

pub loop-searches-preserved : goal.loop-searches-preserved
unfolding round_budget
loop-searches-preserved c =
    let l = c.loop-searches in
    let made =
    round_made round_budget c.args.rounds (view c.args.from) l.goes_on l.invariant.0 c.if-goes_on.true
    c.loop-searches-test.true c.search-searched.ensures.searches in (
      rw c.is_open-goes_on.ensures made,
      c.search-searched.ensures.sound,
      omega (arith, l.invariant.2),
    )

pub returns-after-loop-searches-clause-rounds_made :
    goal.returns-after-loop-searches-clause-rounds_made
returns-after-loop-searches-clause-rounds_made c =
    let l = c.loop-searches in
    rounds_end round_budget c.args.rounds (view c.args.from) l.goes_on l.invariant.0 (inl c.loop-searches-test.false)
