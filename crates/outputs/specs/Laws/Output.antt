-- What a program prints of a session, by what a writing answers: the book that was left at the front of the buffer, or
-- the number; and so what the book program prints, by what the call for a book answers. In the definitions a program's
-- own buffer is one of zeros; only its length matters. Assumes nothing.
use Rattle.std.specs.Prelude.{ℕ, ◌≡◌, Bool, [], ◌∷◌, ◌++◌, ◌≢◌, eqb, length, take, drop, replicate}
use Rattle.std.proofs.Math.Path.{refl}
use Rattle.std.proofs.Common.{sym, ap, ◌∙◌, eq-eqb, ne_eqb, take_at}
use Rattle.std.proofs.Math.Bool.{true, false, cond}
use Rattle.std.proofs.lemmas.List.{length-replicate}
use Rattle.spec.specs.Limits.{program_buffer}
use Rattle.spec.specs.Text.{Bytes}
use Rattle.spec.specs.Session.{Session, session_book}
use Rattle.spec.specs.Refusal.{first_number, refusal, accepted, write_causes}
use Rattle.spec.specs.Calls.{WriteAnswer, write_refused, write_answer, buffer_after}
use Rattle.spec.specs.Program.{budget_of, number_line, printed, program_output}
use Rattle.bits.specs.Truth.{not_both}
use Rattle.text.specs.Written.{Written}
use Rattle.demands.specs.Demand1.{demand_1}
use Rattle.porvuund.specs.OneShot.{searched_once, book_answer, book_buffer, Books}

-- ---- a writing

-- what a writing answers depends on the buffer's length alone
same_answer : (session : Session) (a b : Bytes) → length a ≡ length b → write_answer session a ≡ write_answer session b
unfolding write_answer write_causes
same_answer session a b e = rw e

-- an accepted writing leaves the book at the front of the buffer
whole_book : (session : Session) (buffer : Bytes) → (write_answer session buffer).number ≡ 0
    → Written (session_book session) buffer (buffer_after session buffer) (write_answer session buffer).count
unfolding write_answer buffer_after
whole_book session buffer z = choose (eqb number 0) refl z
  where
    number : ℕ
    number = first_number (write_causes session buffer)

    text : Bytes
    text = session_book session

    choose : (t : Bool) → t ≡ eqb number 0 → (cond t (record { number = 0; count = length text })
        (write_refused number)).number ≡ 0
        → Written text buffer (cond t (text ++ drop (length text) buffer) buffer)
        (cond t (record { number = 0; count = length text }) (write_refused number)).count
    choose true e z = record { buffer = refl; counted = refl }
    choose false e z = absurd (not_both (eq-eqb number 0 z) (sym e))

-- a refused one leaves every byte
untouched : (session : Session) (buffer : Bytes) → (write_answer session buffer).number ≢ 0
    → buffer_after session buffer ≡ buffer
untouched session buffer refuses =
    ((demand_1.writes session session buffer (buffer_after session buffer) (write_answer session buffer)
    (record { answers = refl; fills = refl; leaves = refl })).refused refuses).1

-- ---- what is printed of a writing

pub printed_book : (session : Session) (buffer : Bytes) → (write_answer session buffer).number ≡ 0
    → printed session buffer
    ≡ session_book session
unfolding printed
printed_book session buffer z =
    let w = whole_book session buffer z in
    rw (eq-eqb (write_answer session buffer).number 0 z)
    (ap (take (write_answer session buffer).count) w.buffer
    ∙ take_at (session_book session) (drop (length (session_book session)) buffer)
    (write_answer session buffer).count (sym w.counted))

printed_number : (session : Session) (buffer : Bytes) → (write_answer session buffer).number ≢ 0
    → printed session buffer ≡ number_line (write_answer session buffer).number
unfolding printed
printed_number session buffer refuses = rw (ne_eqb (write_answer session buffer).number 0 refuses)

-- ---- what is printed from a buffer of zeros is what a lent buffer of that length has

module _ (session : Session) (size : ℕ) (buffer : Bytes) (room : length buffer ≡ size) {answer : WriteAnswer}
    {lent : Bytes} (answers : answer ≡ write_answer session buffer) (fills : lent ≡ buffer_after session buffer) where
  abbrev zeros_of : Bytes
  zeros_of = replicate size 0

  -- a buffer of zeros is answered alike
  own_answer : write_answer session zeros_of ≡ write_answer session buffer
  own_answer = same_answer session zeros_of buffer (length-replicate size 0 ∙ sym room)

  number_is : answer.number ≡ (write_answer session buffer).number
  number_is = ap (λ (a : WriteAnswer). a.number) answers

  -- the book is at the front of the buffer
  pub session_written : answer.number ≡ 0 → Written (printed session zeros_of) buffer lent answer.count
  session_written z =
      let here : (write_answer session buffer).number ≡ 0 = sym number_is ∙ z in
      let own : printed session zeros_of ≡ session_book session =
      printed_book session zeros_of (ap (λ (a : WriteAnswer). a.number) own_answer ∙ here) in
      rw (answers, fills, own) (whole_book session buffer here)

  -- the number is printed, and the buffer is as it was
  pub session_refused : answer.number ≢ 0
      → (printed session zeros_of ≡ number_line answer.number) × (lent ≡ buffer)
  session_refused refuses =
      let own : (write_answer session zeros_of).number ≡ answer.number =
      ap (λ (a : WriteAnswer). a.number) own_answer ∙ sym number_is in (
        printed_number session zeros_of (λ z. refuses (sym own ∙ z)) ∙ ap number_line own,
        fills ∙ untouched session buffer (λ z. refuses (number_is ∙ z)),
      )

-- ---- what the program prints

module _ (text word buffer : Bytes) (room : length buffer ≡ program_buffer) where
  abbrev budget : ℕ
  budget = budget_of (word ∷ [])

  abbrev session : Session
  session = searched_once text budget

  abbrev zeros : Bytes
  zeros = replicate program_buffer 0

  -- the book is at the front of the buffer
  pub output_written : {answer : WriteAnswer} {lent : Bytes} → Books text (budget_of (word ∷ [])) buffer answer lent
      → answer.number ≡ 0
      → Written (program_output text (word ∷ [])) buffer lent answer.count
  unfolding book_answer book_buffer program_output
  output_written {answer} {lent} books z = choose (accepted text) refl books.answers books.fills
    where
      choose : (t : Bool) → accepted text ≡ t → answer ≡ cond t (write_answer session buffer)
          (write_refused (refusal text))
          → lent ≡ cond t (buffer_after session buffer) buffer
          → Written (cond t (printed session zeros) (number_line (refusal text))) buffer lent answer.count
      choose true e p q = session_written session program_buffer buffer room p q z
      choose false e p q = absurd (not_both (eq-eqb (refusal text) 0 (sym (ap (λ (a : WriteAnswer). a.number) p)
          ∙ z)) e)

  -- the number is printed, and the buffer is as it was
  pub output_refused : {answer : WriteAnswer} {lent : Bytes} → Books text (budget_of (word ∷ [])) buffer answer lent
      → answer.number ≢ 0
      → (program_output text (word ∷ []) ≡ number_line answer.number) × (lent ≡ buffer)
  unfolding book_answer book_buffer program_output
  output_refused {answer} {lent} books refuses = choose (accepted text) books.answers books.fills
    where
      choose : (t : Bool) → answer ≡ cond t (write_answer session buffer) (write_refused (refusal text))
          → lent ≡ cond t (buffer_after session buffer) buffer
          → (cond t (printed session zeros) (number_line (refusal text)) ≡ number_line answer.number)
          × (lent ≡ buffer)
      choose true p q = session_refused session program_buffer buffer room p q refuses
      choose false p q = (ap number_line (sym (ap (λ (a : WriteAnswer). a.number) p)), q)
