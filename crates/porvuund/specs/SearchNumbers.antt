-- A search's answer with a number for its state, and the answer that such numbers are. Assumes nothing.
use Rattle.std.specs.Prelude.{ℕ, ◌≡◌, refl, cond, eqb}
use Rattle.std.proofs.Math.Option.{Option, none, some}
use Rattle.spec.specs.Roles.{Standing, witnessed, searched, unsettled}
use Rattle.spec.specs.Session.{Session}
use Rattle.spec.specs.Calls.{SearchAnswer, search_answer, after_search, Searches}
use Rattle.porvuund.specs.declared.sessions.SearchNumbers.{SearchNumbers}

-- 1 witnessed, 2 searched, 3 open, and 0 where no state is named
abbrev pub state_number : Option Standing → ℕ
state_number none = 0
state_number (some witnessed) = 1
state_number (some searched) = 2
state_number (some unsettled) = 3

-- these numbers are the answer's
pub record Numbers (answer : SearchAnswer) (n : SearchNumbers) : Type 0 where
  pub number : n.number ≡ answer.number
  pub steps : n.steps ≡ answer.steps
  pub placed : n.placed ≡ answer.placed
  pub taken_back : n.taken_back ≡ answer.taken_back
  pub closed : n.closed ≡ answer.closed
  pub state : n.state ≡ state_number answer.standing
  pub roles : n.roles ≡ answer.roles
  pub bound : n.bound ≡ answer.bound

-- what a search promises, its answer in numbers
pub record SearchesAs (before : Session) (budget : ℕ) (n : SearchNumbers) (after : Session) : Type 0 where
  pub answers : Numbers (search_answer before budget) n
  pub leaves : after ≡ after_search before budget

-- the numbers of a search's own answer
pub searches_as : {before after : Session} {budget : ℕ} {answer : SearchAnswer} {n : SearchNumbers}
    → Searches before budget answer after
    → Numbers answer n → SearchesAs before budget n after
searches_as s numbers = record { answers = rw s.answers at numbers; leaves = s.leaves }

-- ---- back to the answer

-- the state that a number stands for
abbrev pub state_of : ℕ → Option Standing
state_of n = cond (eqb n 1) (some witnessed) (cond (eqb n 2) (some searched) (cond (eqb n 3) (some unsettled) none))

numbered_state : (named : Option Standing) → state_of (state_number named) ≡ named
numbered_state none = refl
numbered_state (some witnessed) = refl
numbered_state (some searched) = refl
numbered_state (some unsettled) = refl

-- the answer that these numbers are
abbrev pub numbers_said : SearchNumbers → SearchAnswer
numbers_said n =
    record {
      number = n.number;
      steps = n.steps;
      placed = n.placed;
      taken_back = n.taken_back;
      closed = n.closed;
      roles = n.roles;
      bound = n.bound;
      standing = state_of
          n.state;
    }

numbers_are : (answer : SearchAnswer) (n : SearchNumbers) → Numbers answer n → numbers_said n ≡ answer
numbers_are answer n h =
    rw (
      h.number,
      h.steps,
      h.placed,
      h.taken_back,
      h.closed,
      h.roles,
      h.bound,
      h.state,
      numbered_state
          answer.standing,
    )

-- what a search promises, of the answer that its numbers are
pub numbers_searched : {before after : Session} {budget : ℕ} {n : SearchNumbers} → SearchesAs before budget n after
    → Searches before budget (numbers_said n) after
numbers_searched {before} {after} {budget} {n} s =
    record { answers = numbers_are (search_answer before budget) n s.answers; leaves = s.leaves }
