-- "The sequence of demand 3": sequences of calls on one session from a fresh one, the last accepted load and whether
-- its sheet was reduced since, the budgets given and those that are enough, what the searches answered, and the books
-- brought out.
use Rattle.std.specs.Prelude.{◌+◌, ◌*◌, ◌≡◌, ◌∷◌}
use Rattle.spec.specs.Vocabulary.{ℕ, zero, suc, cond, Option, none, some, List, [], map, take}
use Rattle.spec.specs.Text.{Bytes}
use Rattle.spec.specs.Sheet.{sheet_of}
use Rattle.spec.specs.Machine.{State, Ran}
use Rattle.spec.specs.Roles.{start_of}
use Rattle.spec.specs.Session.{Session, fresh}
use Rattle.spec.specs.Refusal.{accepted}
use Rattle.spec.specs.Calls.{LoadAnswer, ReduceAnswer, SearchAnswer, WriteAnswer, searched_on, Loads, Reduces}
use Rattle.spec.specs.Calls.{Searches, Writes}

-- a load brings its own sheet, a search its budget, a writing its own buffer, a reduction nothing; a check and a
-- newcomer have no session and change nothing between any two. Any number is a budget here, also those above the range
-- of document 01
pub data Call : Type 0 where
  load : Bytes → Call
  reduce : Call
  search : ℕ → Call
  write : Bytes → Call

-- what a writing gives back: its answer and the lent buffer
pub record WriteOutcome : Type 0 where
  pub answer : WriteAnswer
  pub lent : Bytes

-- what a call gives back
abbrev pub Outcome : Call → Type 0
Outcome (load text) = LoadAnswer
Outcome reduce = ReduceAnswer
Outcome (search budget) = SearchAnswer
Outcome (write buffer) = WriteOutcome

-- a call that was made, with what it gave back
pub record Event : Type 0 where
  pub call : Call
  pub outcome : Outcome call

-- a call took the session from before to after, with this outcome, as the call promises
abbrev pub Happens : (call : Call) → Outcome call → Session → Session → Type 0
Happens (load text) answer before after = Loads before text answer after
Happens reduce answer before after = Reduces before answer after
Happens (search budget) answer before after = Searches before budget answer after
Happens (write buffer) written before after = Writes before buffer written.answer written.lent after

-- the events, the latest first, that led from a fresh session to this one: each call got the session as the call
-- before left it
abbrev pub Led : List Event → Session → Type 0
Led [] session = session ≡ fresh
Led (event ∷ earlier) session =
    (before : Session) × Led earlier before × Happens event.call event.outcome before session

-- the calls of some events
abbrev pub calls : List Event → List Call
calls events = map (λ event. event.call) events

-- the sheet of the last accepted load, found from the calls alone, the latest first
abbrev pub last_accepted : List Call → Option Bytes
last_accepted [] = none
last_accepted (load text ∷ earlier) = cond (accepted text) (some text) (last_accepted earlier)
last_accepted (reduce ∷ earlier) = last_accepted earlier
last_accepted (search budget ∷ earlier) = last_accepted earlier
last_accepted (write buffer ∷ earlier) = last_accepted earlier

-- that sheet, if it was reduced: there was a reduction since that load
abbrev pub last_reduced : List Call → Option Bytes
last_reduced [] = none
last_reduced (load text ∷ earlier) = cond (accepted text) none (last_reduced earlier)
last_reduced (reduce ∷ earlier) = last_accepted earlier
last_reduced (search budget ∷ earlier) = last_reduced earlier
last_reduced (write buffer ∷ earlier) = last_reduced earlier

-- a budget counts whole on a sheet that was reduced, and else not at all
abbrev pub counted_on : Option Bytes → ℕ → ℕ
counted_on none budget = 0
counted_on (some text) budget = budget

-- the budgets of the searches since the first reduction after the last accepted load, each counted whole
abbrev pub budgets_given : List Call → ℕ
budgets_given [] = 0
budgets_given (load text ∷ earlier) = cond (accepted text) 0 (budgets_given earlier)
budgets_given (reduce ∷ earlier) = budgets_given earlier
budgets_given (search budget ∷ earlier) = counted_on (last_reduced earlier) budget + budgets_given earlier
budgets_given (write buffer ∷ earlier) = budgets_given earlier

-- one search from the machine's start on a sheet, with so much budget
unfoldable pub searched_in_all : Bytes → ℕ → Ran
unfolding searched_on start_of
searched_in_all text given = searched_on text given (start_of (sheet_of text))

-- where the machine stands on a sheet that is reduced, once so much budget was given since
unfoldable pub reached : Bytes → ℕ → State
unfolding searched_in_all
reached text given = (searched_in_all text given).state

-- what the searches since an accepted load answered, after one more call: an accepted load begins anew, a search adds
-- its answer
abbrev pub answers_since : (call : Call) → Outcome call → List SearchAnswer → List SearchAnswer
answers_since (load text) answer earlier = cond (accepted text) [] earlier
answers_since reduce answer earlier = earlier
answers_since (search budget) answer earlier = answer ∷ earlier
answers_since (write buffer) written earlier = earlier

-- what the searches since the last accepted load answered, the latest first; a refused one answered counts 0
abbrev pub search_answers : List Event → List SearchAnswer
search_answers [] = []
search_answers (event ∷ earlier) = answers_since event.call event.outcome (search_answers earlier)

-- one of their counts, added up
abbrev pub total : (SearchAnswer → ℕ) → List SearchAnswer → ℕ
total count [] = 0
total count (answer ∷ earlier) = count answer + total count earlier

-- 1 · 2 · .. · n
abbrev pub factorial : ℕ → ℕ
factorial zero = 1
factorial (suc n) = suc n * factorial n

-- 1! + 2! + .. + n!
abbrev pub factorials : ℕ → ℕ
factorials zero = 0
factorials (suc n) = factorials n + factorial (suc n)

-- budgets that must end the search of a kernel of k grants: 2·(1!+2!+..+k!)+1
abbrev pub enough : ℕ → ℕ
enough k = 2 * factorials k + 1

-- the book that an accepted writing brought out: the bytes at the front of its buffer, as many as it answers
abbrev pub brought_out : WriteOutcome → Bytes
brought_out written = take written.answer.count written.lent
