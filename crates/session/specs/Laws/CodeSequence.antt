-- Sequences of calls of the code: each is made on the value after the call before. Whatever way calls are made, if
-- their contracts give what is said here (`Tied`), each call is a step of a sequence of demand 3, between the
-- sessions that the two values stand for; so the demands hold of every sequence of calls of the code.
use Rattle.std.specs.Prelude.{ℕ, ◌≡◌, refl, Bool, true, false, List, [], ◌∷◌, ◌≢◌, ◌↔◌}
use Rattle.std.proofs.Common.{sym, ap, ◌∙◌}
use Rattle.std.proofs.Math.Bool.{So}
use Rattle.std.proofs.Math.Option.{some}
use Rattle.spec.specs.Text.{Bytes}
use Rattle.spec.specs.Sheet.{Sheet, sheet_of}
use Rattle.spec.specs.Rules.{Keeps}
use Rattle.spec.specs.Book.{Said, book_text}
use Rattle.spec.specs.Right.{Right}
use Rattle.spec.specs.Session.{Session, fresh}
use Rattle.spec.specs.Refusal.{Cause, sheet_causes, reduce_causes, not_reduced, search_causes, write_causes}
use Rattle.spec.specs.Calls.{LoadAnswer, ReduceAnswer, SearchAnswer, load_refused, reduce_refused, search_refused}
use Rattle.spec.specs.Calls.{write_refused}
use Rattle.spec.specs.Sequence.{Call, load, reduce, search, write, WriteOutcome, Outcome, Event, Happens, Led, calls}
use Rattle.spec.specs.Sequence.{last_accepted, last_reduced, budgets_given, searched_in_all, search_answers}
use Rattle.spec.specs.Sequence.{brought_out}
use Rattle.spec.specs.Demands.{LowestThatApplies, Judged, OwedOfAll, Together}
use Rattle.bits.specs.Truth.{not_both}
use Rattle.rules.specs.CauseLaws.{first_is_lowest}
use Rattle.demands.specs.Demand1.{demand_1}
use Rattle.demands.specs.Lowest.{demand_1_lowest}
use Rattle.demands.specs.Demand2.{demand_2}
use Rattle.demands.specs.Demand3.{demand_3}
use Rattle.session.specs.CodeSession.{view, NothingFound, Sound}
use Rattle.session.specs.declared.Session.{Session as CodeSession}

-- the number that a call answered
abbrev pub answered : (call : Call) → Outcome call → ℕ
answered (load text) answer = answer.number
answered reduce answer = answer.number
answered (search budget) answer = answer.number
answered (write buffer) written = written.answer.number

-- what the contract of a call ensures, of the value that it was made on and the value after it: the one that a load,
-- a reduction or a search handed back; a writing hands none back, and the value that it was made on is the one after it
abbrev pub Ensured : (call : Call) → Outcome call → CodeSession → CodeSession → Type 0
Ensured call outcome before after =
    Happens call outcome (view before) (view after) × (Sound after × (answered call outcome ≢ 0 → after ≡ before))

-- calls of one kind, their contract kept: the value that each was made on, what it was given, what it answered, and
-- the value after it
pub record Way (Given Answer : Type 0) : Type 2 where
  pub Made : Type 1
  pub on : Made → CodeSession
  pub given : Made → Given
  pub gave : Made → Answer
  pub led : Made → CodeSession

-- a way to make calls: the values that are made fresh, and the calls of each kind. A reduction is given nothing: `Unit`
pub record Calling : Type 2 where
  pub Begun : Type 1
  pub begun : Begun → CodeSession
  pub loads : Way Bytes LoadAnswer
  pub reduces : Way (Unit {0}) ReduceAnswer
  pub searches : Way ℕ SearchAnswer
  pub writes : Way Bytes WriteOutcome

-- a call of this kind was made on the value before with this outcome, and led to the value after
abbrev MadeAs : {Given Answer : Type 0} → Way Given Answer → Given → Answer → CodeSession → CodeSession → Type 1
MadeAs way given answer before after =
    (made : way.Made) × (before ≡ way.on made) × (given ≡ way.given made) × (answer ≡ way.gave made)
    × (after ≡ way.led made)

abbrev pub Step : Calling → (call : Call) → Outcome call → CodeSession → CodeSession → Type 1
Step calling (load text) answer before after = MadeAs calling.loads text answer before after
Step calling reduce answer before after = MadeAs calling.reduces tt answer before after
Step calling (search budget) answer before after = MadeAs calling.searches budget answer before after
Step calling (write buffer) written before after = MadeAs calling.writes buffer written before after

-- the events, the latest first, of the calls that led from a fresh value to this one
abbrev pub Ran : Calling → List Event → CodeSession → Type 1
Ran calling [] s = (first : calling.Begun) × (s ≡ calling.begun first)
Ran calling (event ∷ earlier) s =
    (before : CodeSession) × Ran calling earlier before × Step calling event.call event.outcome before s

-- the contracts give what the demands need; each may require that its value came from the calls
pub record Tied (calling : Calling) : Type 1 where
  pub begins : (first : calling.Begun) → (view (calling.begun first) ≡ fresh) × Sound (calling.begun first)
  pub loads : (made : calling.loads.Made)
      → let way = calling.loads in
      Sound (way.on made) → Ensured (load (way.given made)) (way.gave made) (way.on made) (way.led made)
  pub reduces : (made : calling.reduces.Made)
      → let way = calling.reduces in
      Sound (way.on made) → Ensured reduce (way.gave made) (way.on made) (way.led made)
  pub stays : (made : calling.reduces.Made)
      → let way = calling.reduces in
      Sound (way.on made) → not_reduced (view (way.on made)) ≡ false → way.led made ≡ way.on made
  pub searches : (made : calling.searches.Made)
      → let way = calling.searches in
      Sound (way.on made) → Ensured (search (way.given made)) (way.gave made) (way.on made) (way.led made)
  pub writes : (made : calling.writes.Made)
      → let way = calling.writes in
      Sound (way.on made) → Ensured (write (way.given made)) (way.gave made) (way.on made) (way.led made)

-- ---- the demands of calls of the code

-- the causes by which a call can be refused
abbrev pub causes : Call → Session → List Cause
causes (load text) before = sheet_causes text
causes reduce before = reduce_causes before
causes (search budget) before = search_causes before
causes (write buffer) before = write_causes before buffer

-- a refusal: the number with counts 0, the very value handed back or left, and every lent byte untouched
abbrev pub Refused : (call : Call) → Outcome call → CodeSession → CodeSession → Type 0
Refused (load text) answer before after = (answer ≡ load_refused answer.number) × (after ≡ before)
Refused reduce answer before after = (answer ≡ reduce_refused answer.number) × (after ≡ before)
Refused (search budget) answer before after = (answer ≡ search_refused answer.number) × (after ≡ before)
Refused (write buffer) written before after =
    (written.answer ≡ write_refused written.answer.number) × (written.lent ≡ buffer) × (after ≡ before)

-- demand 1: a call on any value that the calls led to is answered by the first number that applies, and a refusal
-- changes nothing
abbrev pub Demand1Of : Calling → Type 1
Demand1Of calling =
    (earlier : List Event) (before : CodeSession) → Ran calling earlier before
    → (call : Call) (outcome : Outcome call) (after : CodeSession) → Step calling call outcome before after
    → Judged (causes call (view before)) (answered call outcome) (Refused call outcome before after)

-- the number of a call is the lowest that applies; of a writing this is said where 16 does not apply, which stands
-- before 11
abbrev pub Lowest : (call : Call) → Outcome call → Session → Type 0
Lowest (load text) answer before = LowestThatApplies (sheet_causes text) answer.number
Lowest reduce answer before = LowestThatApplies (reduce_causes before) answer.number
Lowest (search budget) answer before = LowestThatApplies (search_causes before) answer.number
Lowest (write buffer) written before =
    not_reduced before ≡ false → LowestThatApplies (write_causes before buffer) written.answer.number

-- demand 1 as document 01 has it: that number is the lowest
abbrev pub LowestOf : Calling → Type 1
LowestOf calling =
    (earlier : List Event) (before : CodeSession) → Ran calling earlier before
    → (call : Call) (outcome : Outcome call) (after : CodeSession) → Step calling call outcome before after
    → Lowest call outcome (view before)

-- a reduction hands back the very value, unless its sheet was not reduced
abbrev pub StaysOf : Calling → Type 1
StaysOf calling =
    (earlier : List Event) (before : CodeSession) → Ran calling earlier before
    → (answer : ReduceAnswer) (after : CodeSession) → Step calling reduce answer before after
    → not_reduced (view before) ≡ false → after ≡ before

-- a value whose sheet is not reduced keeps nothing that only a reduction finds
abbrev pub NothingKeptOf : Calling → Type 1
NothingKeptOf calling =
    (events : List Event) (s : CodeSession) → Ran calling events s → So (not_reduced (view s)) → NothingFound s

-- demand 2: a load is answered by 0 exactly where its bytes keep the rules; each book that a writing brings out is
-- right for the sheet of the last accepted load, its names spelled as that sheet spells them
pub record Demand2Of (calling : Calling) : Type 1 where
  pub accepts_sheets : (earlier : List Event) (before after : CodeSession) (text : Bytes) (answer : LoadAnswer)
      → Ran calling earlier before
      → Step calling (load text) answer before after → (answer.number ≡ 0) ↔ ((sheet : Sheet) × Keeps text sheet)
  pub own_books : (earlier : List Event) (s : CodeSession) (buffer : Bytes) (written : WriteOutcome)
      → Ran calling (record { call = write buffer; outcome = written } ∷ earlier) s → written.answer.number ≡ 0
      → (text : Bytes) × (says : Said) × (last_accepted (calls earlier) ≡ some text) × Right (sheet_of text)
      (brought_out written) says × (brought_out written ≡ book_text (sheet_of text) says)

-- demand 3: all that is owed of every sequence is owed of the calls of the code, and the searches since the last
-- accepted load are together one
pub record Demand3Of (calling : Calling) : Type 1 where
  pub owed : (events : List Event) (s : CodeSession) → Ran calling events s → OwedOfAll events
  pub together : (events : List Event) (s : CodeSession) → Ran calling events s → (text : Bytes)
      → last_reduced (calls events) ≡ some text
      → Together (search_answers events) (searched_in_all text (budgets_given (calls events)))

-- the three demands of calls of the code, demand 1 also as document 01 has it; which value a reduction hands back; and
-- what a value keeps whose sheet is not reduced
pub record DemandsOf (calling : Calling) : Type 1 where
  pub demand_1 : Demand1Of calling
  pub lowest : LowestOf calling
  pub stays : StaysOf calling
  pub nothing_kept : NothingKeptOf calling
  pub demand_2 : Demand2Of calling
  pub demand_3 : Demand3Of calling

-- ---- they follow

-- the value is judged as the session that it stands for is, and a refusal hands back the very value
judged : (call : Call) (outcome : Outcome call) (before after : CodeSession) → Ensured call outcome before after
    → Judged (causes call (view before)) (answered call outcome) (Refused call outcome before after)
judged (load text) answer before after (happens, (sound, kept)) =
    let j = demand_1.loads (view before) (view after) text answer happens in
    record { first = j.first; refused = λ n. ((j.refused n).0, kept n) }
judged reduce answer before after (happens, (sound, kept)) =
    let j = demand_1.reduces (view before) (view after) answer happens in
    record { first = j.first; refused = λ n. ((j.refused n).0, kept n) }
judged (search budget) answer before after (happens, (sound, kept)) =
    let j = demand_1.searches (view before) (view after) budget answer happens in
    record { first = j.first; refused = λ n. ((j.refused n).0, kept n) }
judged (write buffer) written before after (happens, (sound, kept)) =
    let j = demand_1.writes (view before) (view after) buffer written.lent written.answer happens in
    record { first = j.first; refused = λ n. ((j.refused n).0, (j.refused n).1, kept n) }

-- the number is the lowest, as the session's is; a reduction has one cause
lowest : (call : Call) (outcome : Outcome call) (before after : Session) → Happens call outcome before after
    → Lowest call outcome before
lowest (load text) answer before after h = demand_1_lowest.loads before after text answer h
lowest reduce answer before after h =
    first_is_lowest (reduce_causes before) answer.number refl (demand_1.reduces before after answer h).first
lowest (search budget) answer before after h = demand_1_lowest.searches before after budget answer h
lowest (write buffer) written before after h =
    demand_1_lowest.writes before after buffer written.lent written.answer h

-- a value stands for a sheet that is not reduced only where it says so
unreduced_flag : (s : CodeSession) → So (not_reduced (view s)) → s.reduced ≡ false
unreduced_flag s here = choose s.loaded s.reduced refl refl
  where
    choose : (loaded reduced : Bool) → s.loaded ≡ loaded → s.reduced ≡ reduced → s.reduced ≡ false
    choose loaded false l r = r
    choose true true l r = absurd (not_both here (rw (l, r)))
    choose false true l r = absurd (not_both here (rw l))

-- what is ensured of the calls of one kind is ensured of each that was made
ensured_of : {Given Answer : Type 0} (way : Way Given Answer)
    (Ensures : Given → Answer → CodeSession → CodeSession → Type 0)
    → ((made : way.Made) → Sound (way.on made)
    → Ensures (way.given made) (way.gave made) (way.on made) (way.led made))
    → (asked : Given) (answer : Answer) (before after : CodeSession) → MadeAs way asked answer before after
    → Sound before
    → Ensures asked answer before after
ensured_of way Ensures ensures asked answer before after (made, on, given, gave, led) sound =
    rw (on, given, gave, led) (ensures made (rw on at sound))

module _ {calling : Calling} (tied : Tied calling) where
  ensured : (call : Call) (outcome : Outcome call) (before after : CodeSession)
      → Step calling call outcome before after → Sound before
      → Ensured call outcome before after
  ensured (load text) answer before after =
      ensured_of calling.loads (λ t. Ensured (load t)) tied.loads text answer before after
  ensured reduce answer before after =
      ensured_of calling.reduces (λ nothing. Ensured reduce) tied.reduces tt answer before after
  ensured (search budget) answer before after =
      ensured_of calling.searches (λ n. Ensured (search n)) tied.searches budget answer before after
  ensured (write buffer) written before after =
      ensured_of calling.writes (λ b. Ensured (write b)) tied.writes buffer written before after

  -- what the calls led to is what the next call requires
  pub ran_sound : (events : List Event) (s : CodeSession) → Ran calling events s → Sound s
  ran_sound [] s (first, same) = rw same (tied.begins first).1
  ran_sound (event ∷ earlier) s ran =
      (ensured event.call event.outcome ran.0 s ran.2 (ran_sound earlier ran.0 ran.1)).1.0

  -- the calls of the code are a sequence of demand 3
  pub ran_led : (events : List Event) (s : CodeSession) → Ran calling events s → Led events (view s)
  ran_led [] s (first, same) = rw same (tied.begins first).0
  ran_led (event ∷ earlier) s ran = (
    view ran.0,
    ran_led earlier ran.0 ran.1,
    (ensured event.call event.outcome ran.0 s ran.2 (ran_sound earlier ran.0 ran.1)).0,
  )

  tied_demand_1 : Demand1Of calling
  tied_demand_1 earlier before ran call outcome after step =
      judged call outcome before after (ensured call outcome before after step (ran_sound earlier before ran))

  tied_lowest : LowestOf calling
  tied_lowest earlier before ran call outcome after step =
      lowest call outcome (view before) (view after)
      (ensured call outcome before after step (ran_sound earlier before ran)).0

  tied_stays : StaysOf calling
  tied_stays earlier before ran answer after (made, on, given, gave, led) unmoved =
      led ∙ tied.stays made (rw on at (ran_sound earlier before ran)) (rw on at unmoved) ∙ sym on

  tied_nothing_kept : NothingKeptOf calling
  tied_nothing_kept events s ran here = (ran_sound events s ran).unreduced (unreduced_flag s here)

  tied_demand_2 : Demand2Of calling
  tied_demand_2 =
      record {
        accepts_sheets = λ earlier before after text answer ran step.
            let happens = (ensured (load text) answer before after step (ran_sound earlier before ran)).0 in
            let same = ap (λ (a : LoadAnswer). a.number) happens.answers in
            let exact = demand_2.accepts_sheets text in
            (λ z. exact.0 (sym same ∙ z), λ keeps. same ∙ exact.1 keeps);
        own_books = λ earlier s buffer written ran accepts.
            demand_2.own_books buffer written earlier (view s)
            (ran_led (record { call = write buffer; outcome = written } ∷ earlier) s ran) accepts;
      }

  tied_demand_3 : Demand3Of calling
  tied_demand_3 =
      record {
        owed = λ events s ran. demand_3.owed events (view s) (ran_led events s ran);
        together = λ events s ran. demand_3.together events (view s) (ran_led events s ran);
      }

  pub tied_demands : DemandsOf calling
  tied_demands =
      record {
        demand_1 = tied_demand_1;
        lowest = tied_lowest;
        stays = tied_stays;
        nothing_kept = tied_nothing_kept;
        demand_2 = tied_demand_2;
        demand_3 = tied_demand_3;
      }
