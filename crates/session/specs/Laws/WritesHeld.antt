-- A writing of a session whose sheet is reduced does what the definition of a writing says: its answer and the lent
-- buffer are those of the book where the search stands. Without a sheet it is refused with 10, and on a sheet not yet
-- reduced with 16, be the buffer short or long, and session and buffer stay.
use Rattle.std.specs.Prelude.{◌≡◌, refl, Bool, false, ltb, length}
use Rattle.std.proofs.Common.{◌∙◌}
use Rattle.std.proofs.Math.Logic.{⊎_elim}
use Rattle.std.proofs.Math.Bool.{So}
use Rattle.spec.specs.Text.{Bytes}
use Rattle.spec.specs.Sheet.{sheet_of}
use Rattle.spec.specs.Machine.{State}
use Rattle.spec.specs.Book.{book}
use Rattle.spec.specs.Session.{reduced, session_book}
use Rattle.spec.specs.Refusal.{write_causes}
use Rattle.spec.specs.Calls.{WriteAnswer, write_refused, write_answer, buffer_after, Writes}
use Rattle.bits.specs.Truth.{passes_or_fails}
use Rattle.book_lines.specs.Writing.{answer_for, buffer_of}
use Rattle.book_lines.specs.Writing as writing
use Rattle.session.specs.CodeSession.{text_in, state_in, view, Holds}
use Rattle.session.specs.Laws.SearchedHeld.{view_reduced, view_read, view_no_sheet}
use Rattle.session.specs.declared.Session.{Session as CodeSession}

-- without a sheet
pub writes_nothing : (s : CodeSession) → s.loaded ≡ false → (buffer : Bytes) (answer : WriteAnswer)
    → answer ≡ write_refused 10
    → Writes (view s) buffer answer buffer (view s)
unfolding write_answer buffer_after write_causes
writes_nothing s f buffer answer e = rw (view_no_sheet s f) (record { answers = e; fills = refl; leaves = refl })

-- with one that is not reduced
pub writes_unreduced : (s : CodeSession) → So s.loaded → s.reduced ≡ false → (buffer : Bytes) (answer : WriteAnswer)
    → answer ≡ write_refused 16
    → Writes (view s) buffer answer buffer (view s)
unfolding write_answer buffer_after write_causes
writes_unreduced s p f buffer answer e = rw (view_read s p f) (record { answers = e; fills = refl; leaves = refl })

module _ (text : Bytes) (st : State) (buffer : Bytes) where
  -- is the buffer shorter than the book
  abbrev short : Bool
  short = ltb (length buffer) (length (book (sheet_of text) st))

  book_answers : answer_for (book (sheet_of text) st) buffer ≡ write_answer (reduced text st) buffer
  unfolding write_answer write_causes session_book
  book_answers = ⊎_elim (λ (p : So short). rw p) (λ (f : short ≡ false). rw f) (passes_or_fails short)

  book_fills : buffer_of (book (sheet_of text) st) buffer ≡ buffer_after (reduced text st) buffer
  unfolding buffer_after write_causes session_book
  book_fills = ⊎_elim (λ (p : So short). rw p) (λ (f : short ≡ false). rw f) (passes_or_fails short)

-- with one that is reduced
pub writes_held : (s : CodeSession) → Holds s → So s.reduced → {buffer after : Bytes} {said : WriteAnswer}
    → writing.Writes (book (sheet_of (text_in s)) (state_in s)) buffer said after → (answer : WriteAnswer)
    → answer ≡ said
    → Writes (view s) buffer answer after (view s)
writes_held s h r {buffer} written answer e =
    rw (view_reduced s h.accepts r)
    (record {
      answers = e ∙ written.answers ∙ book_answers (text_in s) (state_in s) buffer;
      fills = written.leaves ∙ book_fills (text_in s) (state_in s) buffer;
      leaves = refl;
    })
