-- Where the long search stands after some of its searches: with those that are still to come they are all. It begins so
-- with none made, one search more keeps it, and where none is left, or the last was not `open`, none is to come.
-- Assumes nothing.
use Prim.Native.Nat.{ℕ, suc, ◌+◌, ◌-◌, ◌≤◌, ◌<◌}
use Rattle.std.proofs.Math.Nat.{sub-zero}
use native.Mathlib.Omega.{arith}
use Rattle.std.specs.Prelude.{◌≡◌, Bool, cond, List, [], ◌⊎◌, length}
use Rattle.std.proofs.Math.Path.{refl}
use Rattle.std.proofs.Math.Bool.{true, false, So}
use Rattle.std.proofs.Common.{inl, inr}
use Rattle.spec.specs.Session.{Session}
use Rattle.spec.specs.Calls.{SearchAnswer, Searches}
use Rattle.spec.specs.LongSearch.{says_open, round_answers, after_rounds}
use Rattle.bits.specs.Truth.{not_both}
use Rattle.rolesearch.specs.Rounds.{steps_of, RoundsMade}

-- the answers that are still to come on a session, unless the last search was not `open`
abbrev to_come : ℕ → Bool → ℕ → Session → List SearchAnswer
to_come budget goes_on left session = cond goes_on (round_answers budget left session) []

pub record GoingOn (budget rounds : ℕ) (from at : Session) (made steps : ℕ) (goes_on : Bool) : Type 0 where
  pub within : made ≤ rounds
  pub session : cond goes_on (after_rounds budget (rounds - made) at) at ≡ after_rounds budget rounds from
  pub counted : made + length (to_come budget goes_on (rounds - made) at) ≡ length (round_answers budget rounds from)
  pub summed : steps + steps_of (to_come budget goes_on (rounds - made) at)
      ≡ steps_of (round_answers budget rounds from)

module _ (budget rounds : ℕ) (from : Session) where
  pub rounds_begin : GoingOn budget rounds from from 0 0 true
  rounds_begin =
      record {
        within = omega arith;
        session = rw sub-zero;
        counted = rw sub-zero (omega arith);
        summed = rw sub-zero (omega arith);
      }

  -- one search more
  pub round_made : {at after : Session} {made steps : ℕ} {answer : SearchAnswer} (goes_on : Bool)
      → GoingOn budget rounds from at made steps goes_on → So goes_on → made < rounds → Searches at budget answer after
      → GoingOn budget rounds from after (made + 1) (steps + answer.steps) (says_open answer.standing)
  unfolding after_rounds round_answers
  round_made false g never l s = absurd (not_both never refl)
  round_made {made = made} true g goes l s =
      let left : rounds - made ≡ suc (rounds - (made + 1)) = omega arith in
      let count = rw left at g.counted in
      let sum = rw left at g.summed in
      rw (s.answers, s.leaves)
      (record {
        within = omega arith;
        session = rw left at g.session;
        counted = omega (arith, count);
        summed = omega (arith, sum);
      })

  -- none is left, or the last one was not `open`
  pub rounds_end : {at : Session} {made steps : ℕ} (goes_on : Bool) → GoingOn budget rounds from at made steps goes_on
      → (rounds ≤ made) ⊎ (goes_on ≡ false)
      → RoundsMade budget rounds from at made steps
  unfolding after_rounds round_answers
  rounds_end false g ended =
      record { session = g.session; counted = omega (arith, g.counted); summed = omega (arith, g.summed) }
  rounds_end {made = made} true g (inl none_left) =
      let zero : rounds - made ≡ 0 = omega arith in
      let count = rw zero at g.counted in
      let sum = rw zero at g.summed in
      record { session = rw zero at g.session; counted = omega (arith, count); summed = omega (arith, sum) }
  rounds_end true g (inr not_open) = absurd (not_both refl not_open)
