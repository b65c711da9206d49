-- What the steps of every search in every sequence were. A search on a reduced sheet moves the machine from where the
-- budgets given before had moved it, so what every search owes of its steps (search, StepCounts) is owed of it; and two
-- searches are one (`searched_further`), so all searches since the last accepted load are together one search with all
-- budgets given. A refused search answers counts 0, and before the first reduction every search is refused.
use Rattle.std.specs.Prelude.{ℕ, ◌+◌, ◌≡◌, refl, true, false, List, [], ◌∷◌}
use Rattle.std.proofs.Common.{arith, sym, ap, ◌∙◌, ⊎_elim}
use Rattle.std.proofs.Math.Bool.{So}
use Rattle.std.proofs.Math.Option.{Option, none, some, some-injective}
use Rattle.spec.specs.Text.{Bytes}
use Rattle.spec.specs.Sheet.{sheet_of}
use Rattle.spec.specs.Machine.{Ran, no_step}
use Rattle.spec.specs.Roles.{kernel_of, start_of}
use Rattle.spec.specs.Session.{Session, no_sheet, read, reduced}
use Rattle.spec.specs.Refusal.{accepted}
use Rattle.spec.specs.Calls.{SearchAnswer, search_answer, search_refused, searched_on}
use Rattle.spec.specs.Sequence.{Call, load, reduce, search, write, Event, Happens, Outcome, Led, calls, last_accepted}
use Rattle.spec.specs.Sequence.{last_reduced, budgets_given, searched_in_all, reached, answers_since, search_answers}
use Rattle.spec.specs.Demands.{StepsOwed, Together}
use Rattle.bits.specs.Truth.{passes_or_fails}
use Rattle.search.specs.Laws.StepCounts.{search_told}
use Rattle.demands.specs.Answers.{sheetless_search, unreduced_search}
use Rattle.demands.specs.Reached.{search_none, searched_further, reached_further, session_after}
use Rattle.demands.specs.Reached.{reduced_is_last, none_reduced, none_given, led_session}

-- ---- one search

-- what a search on a reduced sheet owes of its steps
pub steps_owed : (text : Bytes) (budget given : ℕ) (answer : SearchAnswer)
    → answer ≡ search_answer (reduced text (reached text given)) budget
    → StepsOwed (reached text given) (reached text (budget + given)) answer
unfolding search_answer searched_on
steps_owed text budget given answer e =
    let told = search_told (kernel_of (sheet_of text)) budget (reached text given) in
    rw (e, ← reached_further text budget given)
    (record {
      add_up = told.add_up;
      depth_gained = told.depth_gained;
      closed_once = told.closed_once;
      closed_here = (
        λ once. let c = told.closed_here once in (c.was_open, c.finished, c.empty),
        λ c. told.closes (record { was_open = c.0; finished = c.1; empty = c.2 }),
      );
    })

-- ---- all searches since the last accepted load

-- a run that made no step
abbrev no_run : Ran
no_run = no_step (record { placed = []; next = 0; best = []; finished = true })

-- the one search that they are together: none before the sheet is reduced
abbrev one_search : Option Bytes → ℕ → Ran
one_search none given = no_run
one_search (some text) given = searched_in_all text given

-- where none was made, and no budget is given, the search from the start makes no step
together_at_first : (text : Bytes) (answers : List SearchAnswer) → Together answers no_run
    → Together answers (searched_in_all text 0)
unfolding searched_in_all searched_on
together_at_first text answers t =
    rw (search_none (kernel_of (sheet_of text)) (start_of (sheet_of text)))
    (record { steps = t.steps; placed = t.placed; taken_back = t.taken_back; closed = t.closed })

-- a refused search adds nothing
together_refused : (answers : List SearchAnswer) (number : ℕ) (ran : Ran) → Together answers ran
    → Together (search_refused number ∷ answers) ran
together_refused answers number ran t =
    record {
      steps = omega (arith, t.steps);
      placed = omega (arith, t.placed);
      taken_back = omega (arith, t.taken_back);
      closed = omega (arith, t.closed);
    }

-- one more search goes on
together_further : (text : Bytes) (budget given : ℕ) (answers : List SearchAnswer)
    → Together answers (searched_in_all text given)
    → Together (search_answer (reduced text (reached text given)) budget ∷ answers)
    (searched_in_all text (budget + given))
unfolding search_answer
together_further text budget given answers t =
    rw (searched_further text budget given)
    (record {
      steps = omega (arith, t.steps);
      placed = omega (arith, t.placed);
      taken_back = omega (arith, t.taken_back);
      closed = omega (arith, t.closed);
    })

-- ---- call by call

load_together : (text : Bytes) (earlier : List Call) (answers : List SearchAnswer)
    → Together answers (one_search (last_reduced earlier) (budgets_given earlier))
    → Together (answers_since (load text) (record { number = 0; users = 0; permissions = 0; grants = 0 }) answers)
    (one_search (last_reduced (load text ∷ earlier)) (budgets_given (load text ∷ earlier)))
load_together text earlier answers t =
    ⊎_elim
    (λ (p : So (accepted text)). rw p (record { steps = refl; placed = refl; taken_back = refl; closed = refl }))
    (λ (f : accepted text ≡ false). rw f t) (passes_or_fails (accepted text))

reduce_together : (earlier : List Call) (answers : List SearchAnswer)
    → Together answers (one_search (last_reduced earlier) (budgets_given earlier))
    → Together answers (one_search (last_accepted earlier) (budgets_given earlier))
reduce_together earlier answers t = further (last_accepted earlier) (last_reduced earlier) refl refl
  where
    further : (last since : Option Bytes) → last_accepted earlier ≡ last → last_reduced earlier ≡ since
        → Together answers (one_search last (budgets_given earlier))
    further none since l r = rw (none_reduced earlier l) at t
    further (some text) none l r =
        rw (none_given earlier r) (together_at_first text answers (rw r at t))
    further (some text) (some same) l r =
        let whose : same ≡ text = some-injective _ _ (sym (reduced_is_last earlier same r) ∙ l) in
        rw (← whose) (rw r at t)

search_together : (budget : ℕ) (earlier : List Call) (answer : SearchAnswer) (answers : List SearchAnswer)
    → answer ≡ search_answer (session_after earlier) budget
    → Together answers (one_search (last_reduced earlier) (budgets_given earlier))
    → Together (answer ∷ answers)
    (one_search (last_reduced (search budget ∷ earlier)) (budgets_given (search budget ∷ earlier)))
search_together budget earlier answer answers e t =
    further (last_accepted earlier) (last_reduced earlier) refl refl
  where
    -- the answer on the session that the earlier calls led to
    answer_on : (session : Session) → session_after earlier ≡ session → answer ≡ search_answer session budget
    answer_on session same = e ∙ ap (λ (s : Session). search_answer s budget) same

    further : (last since : Option Bytes) → last_accepted earlier ≡ last → last_reduced earlier ≡ since
        → Together (answer ∷ answers)
        (one_search (last_reduced (search budget ∷ earlier)) (budgets_given (search budget ∷ earlier)))
    further none none l r =
        rw (answer_on no_sheet (rw l) ∙ sheetless_search budget, r) (together_refused answers 10 no_run (rw r at t))
    further (some text) none l r =
        rw (answer_on (read text) (rw (l, r)) ∙ unreduced_search text budget, r)
        (together_refused answers 16 no_run (rw r at t))
    further last (some text) l r =
        rw (
          answer_on (reduced text (reached text (budgets_given earlier))) (rw (reduced_is_last earlier text r, r)),
          r,
        )
        (together_further text budget (budgets_given earlier) answers (rw r at t))

call_together : (call : Call) (outcome : Outcome call) (earlier : List Call) (before after : Session)
    (answers : List SearchAnswer) → before ≡ session_after earlier → Happens call outcome before after
    → Together answers (one_search (last_reduced earlier) (budgets_given earlier))
    → Together (answers_since call outcome answers)
    (one_search (last_reduced (call ∷ earlier)) (budgets_given (call ∷ earlier)))
call_together (load text) outcome earlier before after answers e h t = load_together text earlier answers t
call_together reduce outcome earlier before after answers e h t = reduce_together earlier answers t
call_together (search budget) outcome earlier before after answers e h t =
    search_together budget earlier outcome answers
    (h.answers ∙ ap (λ (s : Session). search_answer s budget) e) t
call_together (write buffer) outcome earlier before after answers e h t = t

events_together : (events : List Event) (session : Session) → Led events session
    → Together (search_answers events) (one_search (last_reduced (calls events)) (budgets_given (calls events)))
events_together [] session led = record { steps = refl; placed = refl; taken_back = refl; closed = refl }
events_together (event ∷ earlier) session led =
    call_together event.call event.outcome (calls earlier) led.0 session (search_answers earlier)
    (led_session earlier led.0 led.1) led.2 (events_together earlier led.0 led.1)

-- the counts of all searches since the last accepted load add up to those of one search with all budgets given
pub searches_together : (events : List Event) (session : Session) → Led events session → (text : Bytes)
    → last_reduced (calls events) ≡ some text
    → Together (search_answers events) (searched_in_all text (budgets_given (calls events)))
searches_together events session led text since = rw since at (events_together events session led)
