-- What is owed of what the newcomer program prints: the new book, which is as it is owed, whatever its length; else the
-- number of the refusal, which is never 11. What is answered depends on the length of the buffer alone.
use Rattle.std.specs.Prelude.{ℕ, ◌≤◌, ◌≡◌, refl, ◌≢◌, length, take, replicate}
use Rattle.std.proofs.Common.{arith, sym, ap, ◌∙◌, eq-eqb, ne_eqb}
use Rattle.std.proofs.lemmas.List.{length-replicate}
use Rattle.spec.specs.Limits.{book_limit}
use Rattle.spec.specs.Text.{Bytes}
use Rattle.spec.specs.Refusal.{first_number}
use Rattle.spec.specs.Calls.{WriteAnswer}
use Rattle.spec.specs.Program.{number_line}
use Rattle.spec.specs.Newcomer.{Admission, new_book, newcomer_causes, newcomer_answer, buffer_admitting, Admits}
use Rattle.spec.specs.Admitted.{Admitted}
use Rattle.text.specs.Written.{Written}
use Rattle.book_lines.specs.Laws.LineWritten.{front_written}
use Rattle.demands.specs.Demand1.{demand_1, newcomer_number}
use Rattle.demands.specs.NewcomerBook.{newcomer_owed, brings_the_new_book}
use Rattle.outputs.specs.NewcomerOutput.{own_number, newcomer_output}

-- ---- by the answer

same_number : (lent : Admission) (a b : Bytes) → length a ≡ length b
    → first_number (newcomer_causes lent a) ≡ first_number (newcomer_causes lent b)
unfolding newcomer_causes
same_number lent a b e = rw e

accepted_answer : (lent : Admission) (buffer : Bytes) → first_number (newcomer_causes lent buffer) ≡ 0
    → Written (new_book lent) buffer (buffer_admitting lent buffer) (newcomer_answer lent buffer).count
unfolding newcomer_answer buffer_admitting
accepted_answer lent buffer z =
    let e = eq-eqb (first_number (newcomer_causes lent buffer)) 0 z in
    record { buffer = rw e; counted = rw e }

module _ (lent : Admission) (buffer : Bytes) (room : length buffer ≡ book_limit) {answer : WriteAnswer} {after : Bytes}
    (admits : Admits lent buffer answer after) where
  answered : answer.number ≡ first_number (newcomer_causes lent buffer)
  answered = ap (λ (a : WriteAnswer). a.number) admits.answers ∙ newcomer_number lent buffer

  -- a buffer of zeros is answered alike
  own_is_answered : own_number lent ≡ answer.number
  own_is_answered =
      newcomer_number lent (replicate book_limit 0)
      ∙ same_number lent (replicate book_limit 0) buffer (length-replicate book_limit 0 ∙ sym room)
      ∙ sym answered

  -- the new book is at the front of the buffer
  pub newcomer_written : answer.number ≡ 0 → Written (newcomer_output lent) buffer after answer.count
  unfolding newcomer_output
  newcomer_written z =
      rw (eq-eqb (own_number lent) 0 (own_is_answered ∙ z), admits.answers, admits.fills)
      (accepted_answer lent buffer (sym answered ∙ z))

  -- the number is printed, and the buffer is as it was
  pub newcomer_refused : answer.number ≢ 0
      → (newcomer_output lent ≡ number_line answer.number) × (after ≡ buffer)
  unfolding newcomer_output
  newcomer_refused refuses = (
    rw (ne_eqb (own_number lent) 0 (λ z. refuses (sym own_is_answered ∙ z))) (ap number_line own_is_answered),
    ((demand_1.admits lent buffer after answer admits).refused refuses).1,
  )

-- ---- what is owed

-- the call on the program's own buffer
own_call : (lent : Admission) → Admits lent (replicate book_limit 0) (newcomer_answer lent (replicate book_limit 0))
    (buffer_admitting lent (replicate book_limit 0))
own_call lent = record { answers = refl; fills = refl }

new_book_owed : (lent : Admission) → own_number lent ≡ 0 → Admitted lent (new_book lent)
new_book_owed lent z =
    rw (brings_the_new_book lent (replicate book_limit 0) _ _ (own_call lent) z) at
    (newcomer_owed.admitted lent (replicate book_limit 0) _ _ (own_call lent) z)

-- the newcomer program's output, at the front of its buffer
pub record NewcomerPrinted (lent : Admission) (before after : Bytes) (count : ℕ) : Type 0 where
  -- what is to be printed and no other byte
  pub written : Written (newcomer_output lent) before after count
  -- the new book, as it is owed; where there is such a book, it is printed
  pub admitted : own_number lent ≡ 0 → Admitted lent (take count after)
  pub exactly : (result : Bytes) → Admitted lent result → take count after ≡ result
  -- or the number, and no book is too long
  pub refused : own_number lent ≢ 0 → take count after ≡ number_line (own_number lent)
  pub never_short : own_number lent ≢ 11

pub newcomer_printed : (lent : Admission) {before after : Bytes} {count : ℕ}
    → Written (newcomer_output lent) before after count → NewcomerPrinted lent before after count
unfolding newcomer_output book_limit
newcomer_printed lent w =
    let zeros : Bytes = replicate book_limit 0 in
    record {
      written = w;
      admitted = λ z. rw (front_written w, eq-eqb (own_number lent) 0 z) (new_book_owed lent z);
      exactly = λ result owed.
          let room : length result ≤ length zeros =
          omega (arith, owed.right.of_form.short, length-replicate {A = ℕ} book_limit 0) in
          let brought = newcomer_owed.exactly lent zeros _ _ (own_call lent) result owed room in
          front_written w
          ∙ rw (eq-eqb (own_number lent) 0 brought.0)
          (sym (brings_the_new_book lent zeros _ _ (own_call lent) brought.0) ∙ brought.1);
      refused = λ refuses. front_written w ∙ rw (ne_eqb (own_number lent) 0 refuses);
      never_short =
          newcomer_owed.room lent zeros _ _ (own_call lent) (omega (arith, length-replicate {A = ℕ} book_limit 0));
    }
