-- What the number of a call says that puts a newcomer in a book. All numbers are above 0, so 0 says that no cause
-- applies; and 11 is the last cause's alone, so 11 says that no other applies. Either way the sheet is accepted, the
-- line can be added to it, the book is accepted, and there is room for the newcomer and for a new role.
use Rattle.std.specs.Prelude.{ℕ, ◌<◌, ◌≡◌, refl, ◌≢◌, Bool, false, not, List, [], ◌∷◌, ◌++◌, eqb, ltb, length}
use Rattle.std.proofs.Common.{arith, sym, ⊎_elim, eq-eqb, ltb-true}
use Rattle.std.proofs.Math.Bool.{So}
use Rattle.spec.specs.Vocabulary.{all}
use Rattle.spec.specs.Text.{Bytes}
use Rattle.spec.specs.Refusal.{Cause, first_number, sheet_causes, refusal, book_causes}
use Rattle.spec.specs.Calls.{check}
use Rattle.spec.specs.Newcomer.{Admission, longer_causes, given_sheet, name_taken, users_at_limit, too_many_roles}
use Rattle.spec.specs.Newcomer.{new_book, newcomer_causes}
use Rattle.bits.specs.Truth.{passes_or_fails, not_both, and_left, and_right, not_fails}
use Rattle.rules.specs.CauseLaws.{positive, NoneApplies, zero_none_applies, none_applies_zero}
use Rattle.longer.specs.Addable.{Addable}
use Rattle.right.specs.Verdict.{none_applies_passes, none_applies_left, none_applies_right, unrefused_zero}

-- ---- the last cause

-- no cause of the list has this number
abbrev none_has : ℕ → List Cause → Bool
none_has number causes = all (λ cause. not (eqb cause.number number)) causes

-- a number that only the last cause has says that it applies, and none before it
only_the_last : (earlier : List Cause) (last : Cause) → So (none_has last.number earlier) → last.number ≢ 0
    → first_number (earlier ++ last ∷ []) ≡ last.number → NoneApplies earlier × So last.applies
only_the_last [] last apart above e =
    (tt, ⊎_elim (λ p. p) (λ f. absurd (above (sym (rw f at e)))) (passes_or_fails last.applies))
only_the_last (cause ∷ earlier) last apart above e =
    ⊎_elim
    (λ p.
    absurd (not_both (eq-eqb cause.number last.number (rw p at e))
    (not_fails (eqb cause.number last.number) (and_left other (none_has last.number earlier) apart))))
    (λ f.
    let later =
    only_the_last earlier last (and_right other (none_has last.number earlier) apart) above (rw f at e) in
    ((f, later.0), later.1))
    (passes_or_fails cause.applies)
  where
    other : Bool
    other = not (eqb cause.number last.number)

-- ---- the causes of the call

-- there is no room: the name is taken, or there are as many users or roles as there may be
abbrev room_causes : Admission → List Cause
room_causes lent =
    record { number = 17; applies = name_taken lent }
    ∷ record { number = 18; applies = users_at_limit lent }
    ∷ record { number = 19; applies = too_many_roles lent }
    ∷ []

-- all that are judged before the buffer
unfoldable before_the_buffer : Admission → List Cause
before_the_buffer lent =
    sheet_causes lent.sheet
    ++ longer_causes lent.sheet lent.line
    ++ book_causes (given_sheet lent) lent.book
    ++ room_causes lent

abbrev short_buffer : Admission → Bytes → Cause
short_buffer lent buffer = record { number = 11; applies = ltb (length buffer) (length (new_book lent)) }

buffer_last : (lent : Admission) (buffer : Bytes)
    → newcomer_causes lent buffer ≡ before_the_buffer lent ++ short_buffer lent buffer ∷ []
unfolding newcomer_causes before_the_buffer sheet_causes longer_causes book_causes
buffer_last lent buffer = refl

pub newcomer_causes_positive : (lent : Admission) (buffer : Bytes) → So (positive (newcomer_causes lent buffer))
unfolding newcomer_causes sheet_causes longer_causes book_causes
newcomer_causes_positive lent buffer = refl

eleven_comes_last : (lent : Admission) → So (none_has 11 (before_the_buffer lent))
unfolding before_the_buffer sheet_causes longer_causes book_causes
eleven_comes_last lent = refl

-- ---- what the number says

-- what is so where none of them applies but the buffer's: the line can be added, the checker accepts the book, and
-- there is room for a new role
pub record Admissible (lent : Admission) : Type 0 where
  pub addable : Addable lent
  pub book_accepted : (check lent.sheet lent.book).number ≡ 0
  pub room_for_a_role : too_many_roles lent ≡ false

none_applies_admissible : (lent : Admission) → NoneApplies (before_the_buffer lent) → Admissible lent
unfolding before_the_buffer refusal
none_applies_admissible lent none =
    let sheet = sheet_causes lent.sheet in
    let line = longer_causes lent.sheet lent.line in
    let book = book_causes (given_sheet lent) lent.book in
    let room = room_causes lent in
    let of_texts = none_applies_left (sheet ++ line ++ book) room none in
    let of_sheets = none_applies_left (sheet ++ line) book of_texts in
    let of_room = none_applies_right (sheet ++ line ++ book) room none in
    let sheet_stands = none_applies_zero sheet (none_applies_left sheet line of_sheets) in
    record {
      addable = record {
        given = eq-eqb (refusal lent.sheet) 0 sheet_stands;
        unrefused = none_applies_zero line (none_applies_right sheet line of_sheets);
        new_name = of_room.0;
        room = of_room.1.0;
      };
      book_accepted =
          unrefused_zero lent.sheet lent.book
          (record {
            sheet_stands = sheet_stands;
            book_passes = none_applies_passes (given_sheet lent) lent.book (none_applies_right (sheet ++ line) book
                of_texts);
          });
      room_for_a_role = of_room.1.1.0;
    }

module _ (lent : Admission) (buffer : Bytes) where
  pub zero_admissible : first_number (newcomer_causes lent buffer) ≡ 0 → Admissible lent
  zero_admissible e =
      none_applies_admissible lent
      (none_applies_left (before_the_buffer lent) (short_buffer lent buffer ∷ [])
      (rw (buffer_last lent buffer) at
      (zero_none_applies (newcomer_causes lent buffer) (newcomer_causes_positive lent buffer) e)))

  -- 11 is answered only where the new book is longer than the buffer
  pub record TooShort : Type 0 where
    pub admissible : Admissible lent
    pub short : length buffer < length (new_book lent)

  pub eleven_too_short : first_number (newcomer_causes lent buffer) ≡ 11 → TooShort
  eleven_too_short e =
      let last =
      only_the_last (before_the_buffer lent) (short_buffer lent buffer) (eleven_comes_last lent) (λ z. omega arith)
      (rw (buffer_last lent buffer) at e) in
      record {
        admissible = none_applies_admissible lent last.0;
        short = ltb-true (length buffer) (length (new_book lent)) last.1;
      }
