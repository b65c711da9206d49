-- Every list of calls happens: each call has an answer and leads on from any session, so the events are made one
-- after the other.
use Rattle.std.specs.Prelude.{◌≡◌, refl, List, [], ◌∷◌}
use Rattle.std.proofs.Common.{ap}
use Rattle.spec.specs.Session.{Session, fresh}
use Rattle.spec.specs.Calls.{load_answer, after_load, reduce_answer, after_reduce, search_answer, after_search}
use Rattle.spec.specs.Calls.{write_answer, buffer_after}
use Rattle.spec.specs.Sequence.{Call, load, reduce, search, write, Outcome, Event, Happens, Led, calls}

-- what a call gives back on a session, and the session after it
abbrev pub outcome_on : Session → (call : Call) → Outcome call
outcome_on before (load text) = load_answer text
outcome_on before reduce = reduce_answer before
outcome_on before (search budget) = search_answer before budget
outcome_on before (write buffer) = record { answer = write_answer before buffer; lent = buffer_after before buffer }

abbrev pub session_next : Session → Call → Session
session_next before (load text) = after_load before text
session_next before reduce = after_reduce before
session_next before (search budget) = after_search before budget
session_next before (write buffer) = before

pub happens_on : (before : Session) (call : Call) → Happens call (outcome_on before call) before
    (session_next before call)
happens_on before (load text) = record { answers = refl; leaves = refl }
happens_on before reduce = record { answers = refl; leaves = refl }
happens_on before (search budget) = record { answers = refl; leaves = refl }
happens_on before (write buffer) = record { answers = refl; fills = refl; leaves = refl }

-- some events with exactly these calls, and the session that they led to
record Happened (made : List Call) : Type 0 where
  events : List Event
  session : Session
  led : Led events session
  same : calls events ≡ made

happened : (made : List Call) → Happened made
happened [] = record { events = []; session = fresh; led = refl; same = refl }
happened (call ∷ earlier) = further (happened earlier)
  where
    further : Happened earlier → Happened (call ∷ earlier)
    further before =
        record {
          events = record { call = call; outcome = outcome_on before.session call } ∷ before.events;
          session = session_next before.session call;
          led = (before.session, before.led, happens_on before.session call);
          same = ap (λ (l : List Call). call ∷ l) before.same;
        }

pub every_sequence_happens : (made : List Call) → (events : List Event) × (session : Session) × Led events session
    × (calls events ≡ made)
every_sequence_happens made = let h = happened made in (h.events, h.session, h.led, h.same)
