-- What the searches of the long search made: where they led, how many they were, and the steps of all of them; and how
-- many steps a second some are. Assumes nothing.
use Rattle.std.specs.Prelude.{ℕ, ◌-◌, ◌*◌, ◌/◌, ◌≡◌, cond, List, leb, length}
use Rattle.spec.specs.Session.{Session}
use Rattle.spec.specs.Calls.{SearchAnswer}
use Rattle.spec.specs.Sequence.{total}
use Rattle.spec.specs.LongSearch.{round_answers, after_rounds}

-- the steps of some searches
abbrev pub steps_of : List SearchAnswer → ℕ
steps_of answers = total (λ answer. answer.steps) answers

-- from one session to another, with so many searches and so many steps
pub record RoundsMade (budget rounds : ℕ) (from to : Session) (made steps : ℕ) : Type 0 where
  pub session : to ≡ after_rounds budget rounds from
  pub counted : made ≡ length (round_answers budget rounds from)
  pub summed : steps ≡ steps_of (round_answers budget rounds from)

-- steps a second, of steps that were made between two times in millionths of a second: 0 where no time went by
abbrev pub steps_a_second : ℕ → ℕ → ℕ → ℕ
steps_a_second steps began ended = cond (leb ended began) 0 (steps * 1_000_000 / (ended - began))
