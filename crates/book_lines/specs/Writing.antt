-- What writing a book into a lent buffer answers, and the buffer after it. Assumes nothing.
use Rattle.std.specs.Prelude.{ℕ, ◌≤◌, ◌<◌, ◌≡◌, refl, Bool, true, false, cond, ◌++◌, ltb, length, drop, Result, Ok, Err}
use Rattle.std.proofs.Common.{arith, sym, ap, ◌∙◌, lt-ltb, le-ltb, length-append}
use Rattle.spec.specs.Text.{Bytes}
use Rattle.spec.specs.Calls.{WriteAnswer, write_refused}
use Rattle.numbers.specs.Refusal.{number_of}
use Rattle.numbers.specs.declared.refusal.Refusal.{Refusal}
use Rattle.numbers.specs.declared.refusal.Refusal.TheVariants.{BufferTooShort}
use Rattle.text.specs.Written.{Written}

-- what writing a book answers, as the paper has it: its byte count; or the number of a refusal, 11 for a buffer
-- shorter than the book, and counts 0
abbrev pub writing_said : Result ℕ Refusal → WriteAnswer
writing_said (Ok count) = record { number = 0; count = count }
writing_said (Err cause) = write_refused (number_of cause)

-- the answer for a book and a buffer
abbrev pub answer_for : Bytes → Bytes → WriteAnswer
answer_for book buffer =
    cond (ltb (length buffer) (length book)) (write_refused 11) (record { number = 0; count = length book })

-- the buffer after: the book and past it the buffer's own bytes, or as it was
abbrev pub buffer_of : Bytes → Bytes → Bytes
buffer_of book buffer = cond (ltb (length buffer) (length book)) buffer (book ++ drop (length book) buffer)

-- what a writing promises
pub record Writes (book before : Bytes) (answer : WriteAnswer) (after : Bytes) : Type 0 where
  pub answers : answer ≡ answer_for book before
  pub leaves : after ≡ buffer_of book before

-- ---- the two cases

pub refused_short : (book before : Bytes) → length before < length book
    → Writes book before (writing_said (Err BufferTooShort)) before
refused_short book before h = record { answers = rw (lt-ltb _ _ h); leaves = rw (lt-ltb _ _ h) }

pub written_whole : (book : Bytes) {before after : Bytes} {count : ℕ} → length book ≤ length before
    → Written book before after count
    → Writes book before (writing_said (Ok count)) after
written_whole book h w =
    record {
      answers = rw (le-ltb _ _ h) (ap (λ (n : ℕ). writing_said (Ok n)) w.counted);
      leaves =
          rw (le-ltb _ _ h) w.buffer;
    }

-- a byte count that is answered is within the buffer
pub bytes_within : (book before : Bytes) {answer : Result ℕ Refusal} {after : Bytes} {count : ℕ}
    → Writes book before (writing_said answer) after
    → answer ≡ Ok count → count ≤ length after
bytes_within book before {answer} {after} {count} w told = choose (ltb (length before) (length book)) refl
  where
    same_count : count ≡ (answer_for book before).count
    same_count =
        ap (λ (v : Result ℕ Refusal). (writing_said v).count) (sym told) ∙ ap (λ (a : WriteAnswer). a.count) w.answers

    choose : (short : Bool) → ltb (length before) (length book) ≡ short → count ≤ length after
    choose true e =
        let none : count ≡ 0 = rw e at same_count in
        omega arith
    choose false e =
        let whole : count ≡ length book = rw e at same_count in
        let front : after ≡ book ++ drop (length book) before = rw e at w.leaves in
        omega (arith, ap length front, length-append book (drop (length book) before))
