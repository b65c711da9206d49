-- Where there is a book as it is owed of a newcomer and the buffer has room for it, the call is accepted and brings out
-- that book, byte for byte: no cause applies, and the book is the one that the call writes.
use Rattle.std.specs.Prelude.{◌≤◌, ◌≡◌, List, [], ◌∷◌, ◌++◌, ltb, length, take, drop}
use Rattle.std.proofs.Common.{sym, ap, ◌∙◌, eq-eqb, le-ltb}
use Rattle.std.proofs.Math.Seq.{take-append_seam}
use Rattle.spec.specs.Text.{Bytes}
use Rattle.spec.specs.Refusal.{Cause, first_number, sheet_causes, book_causes}
use Rattle.spec.specs.Calls.{WriteAnswer}
use Rattle.spec.specs.Newcomer.{Admission, given_sheet, longer_causes, name_taken, users_at_limit, too_many_roles}
use Rattle.spec.specs.Newcomer.{new_book, newcomer_causes, newcomer_answer, buffer_admitting, Admits}
use Rattle.spec.specs.Admitted.{Admitted}
use Rattle.rules.specs.CauseLaws.{NoneApplies, none_applies_zero}
use Rattle.right.specs.Verdict.{none_applies_both}
use Rattle.admitted.specs.AdmittedBook.{owed_is_new_book}
use Rattle.admitted.specs.NoneRefuses.{given_none_applies, line_none_applies, book_none_applies, name_is_free}
use Rattle.admitted.specs.NoneRefuses.{room_for_a_user, room_for_a_role}

-- the causes that are judged after the sheets and the book
abbrev last_causes : Admission → Bytes → List Cause
last_causes lent buffer =
    record { number = 17; applies = name_taken lent }
    ∷ record { number = 18; applies = users_at_limit lent }
    ∷ record { number = 19; applies = too_many_roles lent }
    ∷ record { number = 11; applies = ltb (length buffer) (length (new_book lent)) }
    ∷ []

module _ (lent : Admission) (buffer result : Bytes) (owed : Admitted lent result) (room : length result ≤ length buffer)
  where
    last_none_applies : NoneApplies (last_causes lent buffer)
    last_none_applies = (
      name_is_free lent result owed,
      (
        room_for_a_user lent result owed,
        (
          room_for_a_role lent result owed,
          (le-ltb (length buffer) (length (new_book lent)) (rw (owed_is_new_book lent result owed) at room), tt),
        ),
      ),
    )

    none_applies : NoneApplies (newcomer_causes lent buffer)
    unfolding newcomer_causes
    none_applies =
        let line = longer_causes lent.sheet lent.line in
        let book = book_causes (given_sheet lent) lent.book in
        let last = last_causes lent buffer in
        none_applies_both (sheet_causes lent.sheet) (line ++ book ++ last) (given_none_applies lent result owed)
        (none_applies_both line (book ++ last) (line_none_applies lent result owed)
        (none_applies_both book last (book_none_applies lent result owed) last_none_applies))

    pub not_refused : first_number (newcomer_causes lent buffer) ≡ 0
    not_refused = none_applies_zero (newcomer_causes lent buffer) none_applies

-- what the call answers and leaves where no cause applies
module _ (lent : Admission) (buffer : Bytes) (zero : first_number (newcomer_causes lent buffer) ≡ 0) where
  accepted_answer : newcomer_answer lent buffer ≡ record { number = 0; count = length (new_book lent) }
  unfolding newcomer_answer
  accepted_answer = rw (eq-eqb (first_number (newcomer_causes lent buffer)) 0 zero)

  accepted_buffer : buffer_admitting lent buffer ≡ new_book lent ++ drop (length (new_book lent)) buffer
  unfolding buffer_admitting
  accepted_buffer = rw (eq-eqb (first_number (newcomer_causes lent buffer)) 0 zero)

-- the call is accepted, and brings out the book that is owed
pub owed_is_brought_out : (lent : Admission) (before after : Bytes) (answer : WriteAnswer)
    → Admits lent before answer after → (result : Bytes) → Admitted lent result → length result ≤ length before
    → (answer.number ≡ 0) × (take answer.count after ≡ result)
owed_is_brought_out lent before after answer call result owed room =
    let zero = not_refused lent before result owed room in
    let answered : answer ≡ record { number = 0; count = length (new_book lent) } =
    call.answers ∙ accepted_answer lent before zero in
    let filled = call.fills ∙ accepted_buffer lent before zero in (
      ap (λ (a : WriteAnswer). a.number) answered,
      rw (answered, filled) (take-append_seam (new_book lent) (drop (length (new_book lent)) before)
          ∙ sym (owed_is_new_book lent result owed)),
    )
