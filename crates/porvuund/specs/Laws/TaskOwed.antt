-- What is owed of a whole task in one call. On an accepted sheet it is a load, a reduction, a search and a writing on a
-- fresh session, so it is a sequence of demand 3 and its book is believed; a refused sheet has its own number, and
-- nothing is written.
use Rattle.std.specs.Prelude.{ℕ, ◌≡◌, Bool, true, false, List, [], ◌∷◌}
use Rattle.std.proofs.Math.Path.{refl}
use Rattle.std.proofs.Common.{sym, ap, ◌∙◌, eq-eqb}
use Rattle.std.proofs.Math.Bool.{So}
use Rattle.std.proofs.Math.Option.{some}
use Rattle.spec.specs.Text.{Bytes}
use Rattle.spec.specs.Session.{fresh}
use Rattle.spec.specs.Refusal.{refusal, accepted, not_reduced, write_causes}
use Rattle.spec.specs.Calls.{load_answer, after_load, reduce_answer, after_reduce, search_answer, after_search}
use Rattle.spec.specs.Calls.{WriteAnswer, write_refused, Writes}
use Rattle.spec.specs.Sequence.{load, reduce, search, write, Call, Event, WriteOutcome, Led, brought_out}
use Rattle.spec.specs.Demands.{Judged, LowestThatApplies, Believed, BookOwed, WriteOwed}
use Rattle.bits.specs.Truth.{not_both}
use Rattle.demands.specs.Demand1.{demand_1}
use Rattle.demands.specs.Lowest.{demand_1_lowest}
use Rattle.demands.specs.Demand3.{demand_3}
use Rattle.porvuund.specs.OneShot.{searched_once, book_answer, book_buffer, Books}

-- the calls before the writing, the latest first
abbrev pub task_calls : Bytes → ℕ → List Call
task_calls text budget = search budget ∷ reduce ∷ load text ∷ []

-- the events of a task whose writing had this outcome
abbrev pub task_events : Bytes → ℕ → Bytes → WriteOutcome → List Event
task_events text budget buffer written =
    record { call = write buffer; outcome = written }
    ∷ record { call = search budget; outcome = search_answer (after_reduce (after_load fresh text)) budget }
    ∷ record { call = reduce; outcome = reduce_answer (after_load fresh text) }
    ∷ record { call = load text; outcome = load_answer text }
    ∷ []

-- what is owed of a task that was answered so and left the lent buffer so
pub record TaskOwed (text : Bytes) (budget : ℕ) (buffer : Bytes) (written : WriteOutcome) : Type 0 where
  -- a refused sheet: its number with counts 0, and every lent byte untouched
  pub refused_sheet : accepted text ≡ false → (written.answer ≡ write_refused (refusal text))
      × (written.lent ≡ buffer)
  -- an accepted one: a sequence of demand 3, with all that is owed of its writing
  pub sequence : So (accepted text) → Led (task_events text budget buffer written) (searched_once text budget)
  pub owed : So (accepted text) → WriteOwed buffer written (task_calls text budget)
  -- the writing's number is the first that applies, and a refusal has counts 0 and leaves every lent byte untouched;
  -- the sheet being reduced, that number is the lowest
  pub judged : So (accepted text) → Judged (write_causes (searched_once text budget) buffer) written.answer.number
      ((written.answer ≡ write_refused written.answer.number) × (written.lent ≡ buffer))
  pub lowest : So (accepted text)
      → LowestThatApplies (write_causes (searched_once text budget) buffer) written.answer.number
  -- the book that is brought out is believed
  pub believed : written.answer.number ≡ 0 → Believed text (brought_out written)

module _ (text : Bytes) (budget : ℕ) (buffer : Bytes) (written : WriteOutcome)
    (books : Books text budget buffer written.answer written.lent)
  where
    not_accepted : accepted text ≡ false → (written.answer ≡ write_refused (refusal text)) × (written.lent ≡ buffer)
    unfolding book_answer book_buffer
    not_accepted fails = (rw fails at books.answers, rw fails at books.fills)

    writes : So (accepted text)
        → Writes (searched_once text budget) buffer written.answer written.lent (searched_once text budget)
    unfolding book_answer book_buffer
    writes takes = record { answers = rw takes at books.answers; fills = rw takes at books.fills; leaves = refl }

    led : So (accepted text) → Led (task_events text budget buffer written) (searched_once text budget)
    led takes = (
      searched_once text budget,
      (
        after_reduce (after_load fresh text),
        (
          after_load fresh text,
          (fresh, refl, record { answers = refl; leaves = refl }),
          record { answers = refl; leaves = refl },
        ),
        record { answers = refl; leaves = refl },
      ),
      writes takes,
    )

    write_owed : So (accepted text) → WriteOwed buffer written (task_calls text budget)
    write_owed takes = (demand_3.owed (task_events text budget buffer written) (searched_once text budget)
        (led takes)).0

    write_judged : So (accepted text) → Judged (write_causes (searched_once text budget) buffer)
        written.answer.number
        ((written.answer ≡ write_refused written.answer.number) × (written.lent ≡ buffer))
    write_judged takes =
        let j =
        demand_1.writes (searched_once text budget) (searched_once text budget) buffer written.lent
        written.answer (writes takes) in
        record { first = j.first; refused = λ n. ((j.refused n).0, (j.refused n).1) }

    -- when the task writes, its sheet is reduced
    is_reduced : So (accepted text) → not_reduced (searched_once text budget) ≡ false
    unfolding after_load after_reduce after_search
    is_reduced takes = rw takes

    write_lowest : So (accepted text)
        → LowestThatApplies (write_causes (searched_once text budget) buffer) written.answer.number
    write_lowest takes =
        demand_1_lowest.writes (searched_once text budget) (searched_once text budget) buffer written.lent
        written.answer (writes takes) (is_reduced takes)

    -- the last accepted sheet is the task's own
    own_book : So (accepted text) → BookOwed (brought_out written) (task_calls text budget)
        → Believed text (brought_out written)
    own_book takes owed =
        let last : some text ≡ some owed.text = rw takes at owed.last in
        let same : text ≡ owed.text = cc in
        rw same owed.believed

    book_believed : written.answer.number ≡ 0 → Believed text (brought_out written)
    book_believed z = choose (accepted text) refl
      where
        choose : (t : Bool) → accepted text ≡ t → Believed text (brought_out written)
        choose true takes = own_book takes ((write_owed takes).book z)
        choose false fails =
            let number = ap (λ (a : WriteAnswer). a.number) (not_accepted fails).0 in
            absurd (not_both (eq-eqb (refusal text) 0 (sym number ∙ z)) fails)

    -- what the call promises gives it
    pub task_owed : TaskOwed text budget buffer written
    task_owed =
        record {
          refused_sheet = not_accepted;
          sequence = led;
          owed = write_owed;
          judged = write_judged;
          lowest = write_lowest;
          believed = book_believed;
        }
