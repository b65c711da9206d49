-- Where a sequence of calls leads: to no sheet where no load was accepted, else to the sheet of the last accepted
-- load, and if that was reduced since, with the machine moved forward from its start by all budgets given since its
-- first reduction. An accepted load leaves its sheet not reduced, the first reduction starts the machine, searches add
-- up, and further reductions, refusals and writings change nothing.
use Rattle.std.specs.Prelude.{ℕ, ◌+◌, ◌≡◌, refl, Bool, true, false, List, [], ◌∷◌}
use Rattle.std.proofs.Common.{add_comm, sym, ap, ◌∙◌, ⊎_elim}
use Rattle.std.proofs.Math.Bool.{So}
use Rattle.std.proofs.Math.Option.{Option, none, some, none-ne-some}
use Rattle.spec.specs.Limits.{search_limit}
use Rattle.spec.specs.Text.{Bytes}
use Rattle.spec.specs.Sheet.{sheet_of}
use Rattle.spec.specs.Machine.{Kernel, State, Ran, no_step}
use Rattle.spec.specs.Machine
use Rattle.spec.specs.Roles.{kernel_of, start_of}
use Rattle.spec.specs.Session.{Session, no_sheet, read, reduced}
use Rattle.spec.specs.Refusal.{accepted}
use Rattle.spec.specs.Calls.{searched_on, after_load, after_reduce, after_search}
use Rattle.spec.specs.Sequence.{Call, load, reduce, search, write, Event, Happens, Outcome, Led, calls}
use Rattle.spec.specs.Sequence.{last_accepted, last_reduced, counted_on, budgets_given, searched_in_all, reached}
use Rattle.bits.specs.Truth.{passes_or_fails}
use Rattle.bits.specs.Laws.Below.{below_or_from}
use Rattle.search.specs.Laws.Runs.{run_none, followed_by, search_within, search_above, search_add}

-- the session that some calls lead to, from the calls alone: by the sheet of the last accepted load, whether it was
-- reduced since, and the budgets given since its first reduction
abbrev pub session_of : Option Bytes → Option Bytes → ℕ → Session
session_of none since given = no_sheet
session_of (some text) none given = read text
session_of (some text) (some same) given = reduced text (reached text given)

abbrev pub session_after : List Call → Session
session_after earlier = session_of (last_accepted earlier) (last_reduced earlier) (budgets_given earlier)

-- no budget moves nothing
pub search_none : (kernel : Kernel) (st : State) → Machine.search kernel 0 st ≡ no_step st
search_none kernel st =
    ⊎_elim (λ l. search_above kernel 0 st l) (λ l. search_within kernel 0 st l ∙ run_none kernel st)
    (below_or_from search_limit kernel.size)

pub reached_at_first : (text : Bytes) → reached text 0 ≡ start_of (sheet_of text)
unfolding reached searched_in_all searched_on
reached_at_first text =
    ap (λ (ran : Ran). ran.state) (search_none (kernel_of (sheet_of text)) (start_of (sheet_of text)))

-- so much more budget goes on where the machine stood
pub searched_further : (text : Bytes) (budget given : ℕ)
    → searched_in_all text (budget + given)
    ≡ followed_by (searched_in_all text given) (searched_on text budget (reached text given))
unfolding reached searched_in_all searched_on
searched_further text budget given =
    ap (searched_in_all text) (add_comm budget given)
    ∙ search_add (kernel_of (sheet_of text)) given budget (start_of (sheet_of text))

pub reached_further : (text : Bytes) (budget given : ℕ) → (searched_on text budget (reached text given)).state ≡
    reached text (budget + given)
unfolding reached
reached_further text budget given = sym (ap (λ (ran : Ran). ran.state) (searched_further text budget given))

-- ---- the sheet that was reduced

-- it is that of the last accepted load
pub reduced_is_last : (earlier : List Call) (text : Bytes) → last_reduced earlier ≡ some text
    → last_accepted earlier ≡ some text
reduced_is_last [] text e = e
reduced_is_last (load other ∷ earlier) text e =
    ⊎_elim (λ (p : So (accepted other)). absurd (none-ne-some text (rw p at e)))
    (λ (f : accepted other ≡ false). rw f (reduced_is_last earlier text (rw f at e)))
    (passes_or_fails (accepted other))
reduced_is_last (reduce ∷ earlier) text e = e
reduced_is_last (search budget ∷ earlier) text e = reduced_is_last earlier text e
reduced_is_last (write buffer ∷ earlier) text e = reduced_is_last earlier text e

-- so there is none where no load was accepted
pub none_reduced : (earlier : List Call) → last_accepted earlier ≡ none → last_reduced earlier ≡ none
none_reduced earlier e = choose (last_reduced earlier) refl
  where
    choose : (since : Option Bytes) → last_reduced earlier ≡ since → since ≡ none
    choose none l = refl
    choose (some text) l = absurd (none-ne-some text (sym e ∙ reduced_is_last earlier text l))

-- and where there is none, no budget counts
pub none_given : (earlier : List Call) → last_reduced earlier ≡ none → budgets_given earlier ≡ 0
none_given [] e = refl
none_given (load text ∷ earlier) e =
    ⊎_elim (λ (p : So (accepted text)). rw p)
    (λ (f : accepted text ≡ false). rw f (none_given earlier (rw f at e)))
    (passes_or_fails (accepted text))
none_given (reduce ∷ earlier) e = none_given earlier (none_reduced earlier e)
none_given (search budget ∷ earlier) e = rw (e, none_given earlier e)
none_given (write buffer ∷ earlier) e = none_given earlier e

-- ---- where each call leads

-- an accepted load leaves its sheet not reduced, a refused one changes nothing
load_leads : (text : Bytes) (earlier : List Call) → after_load (session_after earlier) text ≡ session_after
    (load text ∷ earlier)
unfolding after_load
load_leads text earlier =
    ⊎_elim (λ (p : So (accepted text)). rw p) (λ (f : accepted text ≡ false). rw f) (passes_or_fails (accepted text))

-- the first reduction starts the machine, further ones change nothing
reduce_leads : (earlier : List Call) → after_reduce (session_after earlier) ≡ session_after (reduce ∷ earlier)
unfolding after_reduce
reduce_leads earlier = further (last_accepted earlier) (last_reduced earlier) (none_given earlier)
  where
    further : (last since : Option Bytes) → (since ≡ none → budgets_given earlier ≡ 0)
        → after_reduce (session_of last since (budgets_given earlier)) ≡ session_of last last (budgets_given earlier)
    further none since unmoved = refl
    further (some text) none unmoved = rw (unmoved refl, reached_at_first text)
    further (some text) (some same) unmoved = refl

-- searches add up on a sheet that was reduced, and change nothing on any other
search_leads : (budget : ℕ) (earlier : List Call)
    → after_search (session_after earlier) budget ≡ session_after (search budget ∷ earlier)
unfolding after_search
search_leads budget earlier = further (last_accepted earlier) (last_reduced earlier)
  where
    further : (last since : Option Bytes)
        → after_search (session_of last since (budgets_given earlier)) budget ≡ session_of last since
        (counted_on since budget + budgets_given earlier)
    further none since = refl
    further (some text) none = refl
    further (some text) (some same) =
        ap (λ (st : State). reduced text st) (reached_further text budget (budgets_given earlier))

-- one call leads on
happens_leads : (call : Call) (outcome : Outcome call) (earlier : List Call) (before after : Session)
    → before ≡ session_after earlier
    → Happens call outcome before after → after ≡ session_after (call ∷ earlier)
happens_leads (load text) answer earlier before after e h =
    h.leaves ∙ (ap (λ (s : Session). after_load s text) e ∙ load_leads text earlier)
happens_leads reduce answer earlier before after e h = h.leaves ∙ (ap after_reduce e ∙ reduce_leads earlier)
happens_leads (search budget) answer earlier before after e h =
    h.leaves ∙ (ap (λ (s : Session). after_search s budget) e ∙ search_leads budget earlier)
happens_leads (write buffer) written earlier before after e h = h.leaves ∙ e

-- whatever events led to a session, it is the one that their calls determine
pub led_session : (events : List Event) (session : Session) → Led events session → session ≡ session_after
    (calls events)
led_session [] session led = led
led_session (event ∷ earlier) session led =
    happens_leads event.call event.outcome (calls earlier) led.0 session
    (led_session earlier led.0 led.1) led.2

-- the last accepted sheet is accepted
pub last_is_accepted : (earlier : List Call) (text : Bytes) → last_accepted earlier ≡ some text → So (accepted text)
last_is_accepted [] text e = absurd (none-ne-some text e)
last_is_accepted (load other ∷ earlier) text e = choose (accepted other) refl (last_is_accepted earlier text)
  where
    choose : (b : Bool) → accepted other ≡ b → (last_accepted earlier ≡ some text → So (accepted text))
        → So (accepted text)
    choose true p before =
        let same : other ≡ text = (let here : some other ≡ some text = rw p at e in cc) in
        rw (← same) p
    choose false p before = before (rw p at e)
last_is_accepted (reduce ∷ earlier) text e = last_is_accepted earlier text e
last_is_accepted (search budget ∷ earlier) text e = last_is_accepted earlier text e
last_is_accepted (write buffer ∷ earlier) text e = last_is_accepted earlier text e
