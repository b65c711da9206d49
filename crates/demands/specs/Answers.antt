-- What the calls answer without a sheet, with one that is not reduced and with one that is, and what an accepted
-- writing brings out. Each follows from the calls' definitions by cases: is there a sheet, is it accepted, is it
-- reduced, does the buffer take the book.
use Rattle.std.specs.Prelude.{ℕ, ◌≤◌, ◌<◌, ◌≡◌, refl, false, ◌↔◌, length}
use Rattle.std.proofs.Common.{sym, ap, ◌∙◌, ⊎_elim, eq-eqb, lt-ltb, le-ltb}
use Rattle.std.proofs.Math.Bool.{So}
use Rattle.spec.specs.Text.{Bytes}
use Rattle.spec.specs.Sheet.{sheet_of}
use Rattle.spec.specs.Machine.{State}
use Rattle.spec.specs.Book.{book}
use Rattle.spec.specs.Session.{Session, no_sheet, read, reduced, session_book}
use Rattle.spec.specs.Refusal.{first_number, refusal, accepted, write_causes}
use Rattle.spec.specs.Calls.{LoadAnswer, load_answer, reduce_answer, reduce_refused, reduce_counts, search_answer}
use Rattle.spec.specs.Calls.{search_refused, WriteAnswer, write_refused, write_answer, buffer_after, Loads, Writes}
use Rattle.spec.specs.Sequence.{WriteOutcome, brought_out}
use Rattle.spec.specs.Demands.{LoadOwed}
use Rattle.bits.specs.Truth.{passes_or_fails}
use Rattle.demands.specs.TextWritten.{answers_the_number, front_is_the_text}

-- a load answers 0 exactly where its sheet is accepted
pub load_number : (text : Bytes) → ((load_answer text).number ≡ 0) ↔ So (accepted text)
unfolding load_answer
load_number text = (λ z. ⊎_elim (λ p. p) (refused z) (passes_or_fails (accepted text)), λ p. rw p)
  where
    refused : (load_answer text).number ≡ 0 → accepted text ≡ false → So (accepted text)
    refused z f = eq-eqb (refusal text) 0 (rw f at z)

pub load_owed : (before : Session) (text : Bytes) (answer : LoadAnswer) (after : Session) → Loads before text answer
    after
    → LoadOwed text answer
load_owed before text answer after h =
    let number : answer.number ≡ (load_answer text).number = ap (λ (a : LoadAnswer). a.number) h.answers in
    (λ z. (load_number text).0 (sym number ∙ z), λ p. number ∙ (load_number text).1 p)

-- 10 with no accepted sheet
pub sheetless_reduce : reduce_answer no_sheet ≡ reduce_refused 10
unfolding reduce_answer
sheetless_reduce = refl

pub sheetless_search : (budget : ℕ) → search_answer no_sheet budget ≡ search_refused 10
unfolding search_answer
sheetless_search budget = refl

pub sheetless_write : (buffer : Bytes) → write_answer no_sheet buffer ≡ write_refused 10
unfolding write_answer write_causes
sheetless_write buffer = refl

-- a reduction of a sheet answers its counts, also where it is reduced already
pub unreduced_reduce : (text : Bytes) → reduce_answer (read text) ≡ reduce_counts (sheet_of text)
unfolding reduce_answer
unreduced_reduce text = refl

pub reduced_reduce : (text : Bytes) (st : State) → reduce_answer (reduced text st) ≡ reduce_counts (sheet_of text)
unfolding reduce_answer
reduced_reduce text st = refl

-- 16 on a sheet that is not reduced, whatever the buffer
pub unreduced_search : (text : Bytes) (budget : ℕ) → search_answer (read text) budget ≡ search_refused 16
unfolding search_answer
unreduced_search text budget = refl

pub unreduced_write : (text : Bytes) (buffer : Bytes) → write_answer (read text) buffer ≡ write_refused 16
unfolding write_answer write_causes
unreduced_write text buffer = refl

-- no refusal of a search on a sheet that is reduced
pub reduced_search : (text : Bytes) (st : State) (budget : ℕ) → (search_answer (reduced text st) budget).number ≡ 0
unfolding search_answer
reduced_search text st budget = refl

pub reduced_book : (text : Bytes) (st : State) → session_book (reduced text st) ≡ book (sheet_of text) st
unfolding session_book
reduced_book text st = refl

-- no refusal of a writing on it whose buffer takes the book
pub reduced_write : (text : Bytes) (st : State) (buffer : Bytes) → length (book (sheet_of text) st) ≤ length buffer
    → (write_answer (reduced text st) buffer).number ≡ 0
unfolding write_answer write_causes session_book
reduced_write text st buffer takes = rw (le-ltb (length buffer) (length (book (sheet_of text) st)) takes)

-- and 11 where it does not
pub reduced_write_short : (text : Bytes) (st : State) (buffer : Bytes)
    → length buffer < length (book (sheet_of text) st) → write_answer (reduced text st) buffer ≡ write_refused 11
unfolding write_answer write_causes session_book
reduced_write_short text st buffer short = rw (lt-ltb (length buffer) (length (book (sheet_of text) st)) short)

-- an accepted writing brings out the session's book, whole
pub brings_the_book : (before : Session) (buffer : Bytes) (written : WriteOutcome) (after : Session)
    → Writes before buffer written.answer written.lent after → written.answer.number ≡ 0
    → brought_out written ≡ session_book before
unfolding write_answer buffer_after
brings_the_book before buffer written after h accepts =
    let number : ℕ = first_number (write_causes before buffer) in
    rw (h.answers, h.fills)
    (front_is_the_text number (session_book before) buffer
    (sym (answers_the_number number (session_book before))
    ∙ (sym (ap (λ (a : WriteAnswer). a.number) h.answers) ∙ accepts)))
