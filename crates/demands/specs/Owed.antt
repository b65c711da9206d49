-- From one book to the whole sequence: what is owed of each outcome follows from what is owed of the book of the
-- sheet of the last accepted load, once it is reduced, with the machine where the budgets given since its first
-- reduction have moved it. That is the session before the call, whatever the calls were.
use Rattle.std.specs.Prelude.{ℕ, ◌+◌, ◌≤◌, ◌≡◌, refl, List, [], ◌∷◌, ◌⊎◌, ◌≢◌, length}
use Rattle.std.proofs.Common.{arith, sym, ◌∙◌, inl, inr, ⊎_elim}
use Rattle.std.proofs.Math.Path.{ap}
use Rattle.std.proofs.Math.Option.{Option, none, some, some-injective}
use Rattle.spec.specs.Text.{Bytes}
use Rattle.spec.specs.Sheet.{sheet_of}
use Rattle.spec.specs.Reduction.{kernel_size}
use Rattle.spec.specs.Roles.{standing, unsettled}
use Rattle.spec.specs.Book.{book}
use Rattle.spec.specs.Session.{Session, no_sheet, read, reduced, session_book}
use Rattle.spec.specs.Calls.{ReduceAnswer, reduce_answer, reduce_counts, SearchAnswer, search_answer, searched_on}
use Rattle.spec.specs.Calls.{WriteAnswer, write_answer, write_refused, Reduces, Searches, Writes}
use Rattle.spec.specs.Sequence.{Call, load, reduce, search, write, WriteOutcome, Event, Happens, Led, Outcome, calls}
use Rattle.spec.specs.Sequence.{last_accepted, last_reduced, budgets_given, reached, brought_out}
use Rattle.spec.specs.Demands.{BudgetsSuffice, ReduceOwed, SearchOwed, WriteOwed, BookOwed, Owed, OwedOfAll}
use Rattle.bits.specs.Laws.Below.{below_or_from}
use Rattle.demands.specs.Answers.{load_owed, sheetless_reduce, sheetless_search, sheetless_write}
use Rattle.demands.specs.Answers.{unreduced_reduce, unreduced_search, unreduced_write, reduced_reduce}
use Rattle.demands.specs.Answers.{reduced_search, reduced_book, reduced_write, reduced_write_short}
use Rattle.demands.specs.Answers.{brings_the_book}
use Rattle.demands.specs.Believed.{book_believed, book_says}
use Rattle.demands.specs.Settled.{ended_settles}
use Rattle.demands.specs.StepsOwed.{steps_owed}
use Rattle.demands.specs.Reached.{reached_further, session_after, led_session}
use Rattle.demands.specs.Reached.{reduced_is_last, last_is_accepted}

module _ (earlier : List Call) (before : Session) (e : before ≡ session_after earlier) where
  -- the session before a call: where no load was accepted, where one was, and where its sheet was reduced since
  nothing_read : last_accepted earlier ≡ none → before ≡ no_sheet
  nothing_read last = e ∙ rw last

  sheet_read : (text : Bytes) → last_accepted earlier ≡ some text → last_reduced earlier ≡ none → before ≡ read text
  sheet_read text last since = e ∙ rw (last, since)

  sheet_reduced : (text : Bytes) → last_reduced earlier ≡ some text
      → before ≡ reduced text (reached text (budgets_given earlier))
  sheet_reduced text since = e ∙ rw (reduced_is_last earlier text since, since)

  reduce_owed : (answer : ReduceAnswer) (after : Session) → Reduces before answer after → ReduceOwed answer earlier
  reduce_owed answer after h =
      record {
        sheetless = λ last. h.answers ∙ (ap reduce_answer (nothing_read last) ∙ sheetless_reduce);
        answered = λ text last. h.answers ∙ counts text last (last_reduced earlier) refl;
      }
    where
      counts : (text : Bytes) → last_accepted earlier ≡ some text → (since : Option Bytes)
          → last_reduced earlier ≡ since → reduce_answer before ≡ reduce_counts (sheet_of text)
      counts text last none l = ap reduce_answer (sheet_read text last l) ∙ unreduced_reduce text
      counts text last (some same) l =
          let whose : same ≡ text =
          some-injective _ _ (sym (reduced_is_last earlier same l) ∙ last) in
          ap reduce_answer (sheet_reduced text (l ∙ ap some whose))
          ∙ reduced_reduce text (reached text (budgets_given earlier))

  -- a search that was given enough does not answer `open`
  search_settled : (budget : ℕ) (answer : SearchAnswer) (after : Session) → Searches before budget answer after
      → (text : Bytes) → last_reduced earlier ≡ some text → BudgetsSuffice (kernel_size (sheet_of text))
      (budget + budgets_given earlier)
      → answer.standing ≢ some unsettled
  unfolding search_answer
  search_settled budget answer after h text since ended stays_open =
      let answered : answer.standing ≡ some
      (standing (sheet_of text) (searched_on text budget (reached text (budgets_given earlier))).state) =
      ap (λ (a : SearchAnswer). a.standing) (h.answers ∙ ap (λ (s : Session). search_answer s budget)
      (sheet_reduced text since)) in
      let moved = reached_further text budget (budgets_given earlier) in
      ended_settles text (budget + budgets_given earlier) ended
      (some-injective _ _ (rw (← moved) (sym answered ∙ stays_open)))

  search_owed : (budget : ℕ) (answer : SearchAnswer) (after : Session) → Searches before budget answer after
      → SearchOwed budget answer earlier
  search_owed budget answer after h =
      record {
        sheetless = λ last. answers_on (nothing_read last) ∙ sheetless_search budget;
        unreduced = λ text last since. answers_on (sheet_read text last since) ∙ unreduced_search text budget;
        answered = λ text since.
            ap (λ (a : SearchAnswer). a.number) (answers_on (sheet_reduced text since))
            ∙ reduced_search text (reached text (budgets_given earlier)) budget;
        settled = search_settled budget answer after h;
        steps_owed = λ text since.
            steps_owed text budget (budgets_given earlier) answer (answers_on (sheet_reduced text since));
      }
    where
      answers_on : {session : Session} → before ≡ session → answer ≡ search_answer session budget
      answers_on same = h.answers ∙ ap (λ (s : Session). search_answer s budget) same

  -- what is owed of the book of the last accepted load's sheet, which was reduced since, with the machine where the
  -- budgets given since have moved it
  book_of_the_sheet : (text : Bytes) → last_reduced earlier ≡ some text
      → BookOwed (book (sheet_of text) (reached text (budgets_given earlier))) earlier
  book_of_the_sheet text since =
      let last = reduced_is_last earlier text since in
      let ok = last_is_accepted earlier text last in
      record {
        text = text;
        last = last;
        reduced = since;
        believed = book_believed text ok (budgets_given earlier);
        settled = λ ended says_open.
            ended_settles text (budgets_given earlier) ended (sym (book_says text ok (budgets_given earlier))
            ∙ says_open);
      }

  module _ (buffer : Bytes) (written : WriteOutcome) (after : Session)
      (h : Writes before buffer written.answer written.lent after)
    where
      answers_on : {session : Session} → before ≡ session → written.answer ≡ write_answer session buffer
      answers_on same = h.answers ∙ ap (λ (s : Session). write_answer s buffer) same

      sheetless : last_accepted earlier ≡ none → written.answer ≡ write_refused 10
      sheetless last = answers_on (nothing_read last) ∙ sheetless_write buffer

      unreduced : (text : Bytes) → last_accepted earlier ≡ some text → last_reduced earlier ≡ none
          → written.answer ≡ write_refused 16
      unreduced text last since = answers_on (sheet_read text last since) ∙ unreduced_write text buffer

      -- no refusal where the buffer takes the book, else 11
      taken : (text : Bytes) → last_reduced earlier ≡ some text
          → length (book (sheet_of text) (reached text (budgets_given earlier))) ≤ length buffer
          → written.answer.number ≡ 0
      taken text since takes =
          ap (λ (a : WriteAnswer). a.number) (answers_on (sheet_reduced text since))
          ∙ reduced_write text (reached text (budgets_given earlier)) buffer takes

      only_short : (text : Bytes) → last_reduced earlier ≡ some text
          → (written.answer.number ≡ 0) ⊎ (written.answer ≡ write_refused 11)
      only_short text since =
          ⊎_elim
          (λ short. inr (answers_on (sheet_reduced text since)
          ∙ reduced_write_short text (reached text (budgets_given earlier)) buffer short))
          (λ takes. inl (taken text since takes))
          (below_or_from (length buffer) (length (book (sheet_of text) (reached text (budgets_given earlier)))))

      -- a buffer of as many bytes as the checker takes is enough
      room_enough : (text : Bytes) → last_reduced earlier ≡ some text → 131_072 ≤ length buffer
          → written.answer.number ≡ 0
      room_enough text since room =
          let short = (book_of_the_sheet text since).believed.right.of_form.short in
          taken text since (omega (arith, short, room))

      -- a book brought out is the book of the sheet
      book_owed : written.answer.number ≡ 0 → BookOwed (brought_out written) earlier
      book_owed accepts = choose (last_accepted earlier) (last_reduced earlier) refl refl
        where
          refused : (number : ℕ) → written.answer ≡ write_refused number → number ≡ 0
          refused number r = sym (ap (λ (a : WriteAnswer). a.number) r) ∙ accepts

          choose : (last since : Option Bytes) → last_accepted earlier ≡ last → last_reduced earlier ≡ since
              → BookOwed (brought_out written) earlier
          choose none none l r = absurd (omega (arith, refused 10 (sheetless l)))
          choose (some text) none l r = absurd (omega (arith, refused 16 (unreduced text l r)))
          choose last (some text) l r =
              let brought : brought_out written ≡ book (sheet_of text) (reached text (budgets_given earlier)) =
              brings_the_book before buffer written after h accepts
              ∙ (ap session_book (sheet_reduced text r) ∙ reduced_book text (reached text (budgets_given earlier))) in
              rw brought (book_of_the_sheet text r)

      write_owed : WriteOwed buffer written earlier
      write_owed =
          record {
            sheetless = sheetless;
            unreduced = unreduced;
            only_short = only_short;
            answered = room_enough;
            book = book_owed;
          }

owed : (call : Call) (outcome : Outcome call) (earlier : List Call) (before after : Session) → before ≡ session_after
    earlier
    → Happens call outcome before after → Owed call outcome earlier
owed (load text) answer earlier before after e h = load_owed before text answer after h
owed reduce answer earlier before after e h = reduce_owed earlier before e answer after h
owed (search budget) answer earlier before after e h = search_owed earlier before e budget answer after h
owed (write buffer) written earlier before after e h = write_owed earlier before e buffer written after h

-- demand 3, event by event
pub owed_of_all : (events : List Event) (session : Session) → Led events session → OwedOfAll events
owed_of_all [] session led = tt
owed_of_all (event ∷ earlier) session led = (
  owed event.call event.outcome (calls earlier) led.0 session (led_session earlier led.0 led.1) led.2,
  owed_of_all earlier led.0 led.1,
)
