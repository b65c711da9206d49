-- A whole task in one call: a sheet is loaded into a fresh session, reduced, searched once within a budget, and its
-- book is written. The answer is that of the first of these calls that refuses, and else that of the writing. Assumes
-- nothing.
use Rattle.std.specs.Prelude.{ℕ, ◌≡◌, refl, cond, ◌≢◌}
use Rattle.std.proofs.Common.{ap, ◌∙◌, eq-eqb, ne_eqb}
use Rattle.spec.specs.Text.{Bytes}
use Rattle.spec.specs.Session.{Session, fresh}
use Rattle.spec.specs.Refusal.{refusal, accepted}
use Rattle.spec.specs.Calls.{LoadAnswer, ReduceAnswer, SearchAnswer, after_load, after_reduce, after_search}
use Rattle.spec.specs.Calls.{WriteAnswer, write_refused, write_answer, buffer_after, Loads, Reduces, Searches, Writes}
use Rattle.demands.specs.Demand1.{load_number_is_refusal}

-- the session after the load, the reduction and the search
abbrev pub searched_once : Bytes → ℕ → Session
searched_once text budget = after_search (after_reduce (after_load fresh text)) budget

-- the answer: a refused load's number, or what the writing answers
unfoldable pub book_answer : Bytes → ℕ → Bytes → WriteAnswer
book_answer text budget buffer =
    let written : WriteAnswer = write_answer (searched_once text budget) buffer in
    cond (accepted text) written (write_refused (refusal text))

-- the lent buffer after it: untouched where the load is refused, or as the writing leaves it
unfoldable pub book_buffer : Bytes → ℕ → Bytes → Bytes
book_buffer text budget buffer =
    let written : Bytes = buffer_after (searched_once text budget) buffer in
    cond (accepted text) written buffer

-- what the call promises: its answer and the lent buffer
pub record Books (text : Bytes) (budget : ℕ) (buffer : Bytes) (answer : WriteAnswer) (lent : Bytes) : Type 0 where
  pub answers : answer ≡ book_answer text budget buffer
  pub fills : lent ≡ book_buffer text budget buffer

-- ---- from the calls of a session

-- a refused load
pub refused_by_load : (text : Bytes) (budget : ℕ) (buffer : Bytes) (number : ℕ) → number ≡ refusal text → number ≢ 0
    → Books text budget buffer (record { number = number; count = 0 }) buffer
unfolding book_answer book_buffer
refused_by_load text budget buffer number e refuses =
    let f = ne_eqb (refusal text) 0 (λ z. refuses (e ∙ z)) in
    record { answers = rw f (ap write_refused e); fills = rw f refl }

-- an accepted one, then a reduction, a search and a writing
pub written_after : (text : Bytes) (budget : ℕ) (buffer : Bytes) → refusal text ≡ 0
    → {start loaded reduced searched after : Session} {load : LoadAnswer} {reduce : ReduceAnswer}
    {search : SearchAnswer} {answer : WriteAnswer} {lent : Bytes}
    → start ≡ fresh → Loads start text load loaded → Reduces loaded reduce reduced
    → Searches reduced budget search searched → Writes searched buffer answer lent after
    → Books text budget buffer answer lent
unfolding book_answer book_buffer
written_after text budget buffer accepts {loaded = loaded} {searched = searched} start loads reduces searches writes =
    let e = eq-eqb (refusal text) 0 accepts in
    let read : loaded ≡ after_load fresh text = loads.leaves ∙ ap (λ (s : Session). after_load s text) start in
    let same : searched ≡ searched_once text budget =
    searches.leaves ∙ ap (λ (s : Session). after_search s budget) (reduces.leaves ∙ ap after_reduce read) in
    record {
      answers = rw e (writes.answers ∙ ap (λ (s : Session). write_answer s buffer) same);
      fills = rw e (writes.fills ∙ ap (λ (s : Session). buffer_after s buffer) same);
    }

-- a load's number is the sheet's
pub loaded_number : (text : Bytes) {before after : Session} {answer : LoadAnswer} → Loads before text answer after
    → answer.number ≡ refusal text
loaded_number text loads = ap (λ (a : LoadAnswer). a.number) loads.answers ∙ load_number_is_refusal text
