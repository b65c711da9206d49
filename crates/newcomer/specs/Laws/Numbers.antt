-- The number that the call answers, by the order of its causes: where nothing applies of those that come first, the
-- next ones decide. Assumes nothing.
use Rattle.std.specs.Prelude.{ℕ, ◌≡◌, ◌≢◌, Bool, List, [], ◌∷◌, ◌++◌, length}
use Rattle.std.proofs.Math.Path.{refl, ap}
use Rattle.std.proofs.Common.{sym, ◌∙◌}
use Rattle.std.proofs.Math.Bool.{true, false, So}
use borrow.Author.Tests.{ne_eqb}
use Rattle.std.proofs.Math.Dec.{ltb}
use Rattle.spec.specs.Text.{Bytes}
use Rattle.spec.specs.Refusal.{Cause, refuse_if, first_number, sheet_causes, refusal, book_causes, check_causes}
use Rattle.spec.specs.Calls.{CheckAnswer, Checks, check, WriteAnswer, write_refused}
use Rattle.spec.specs.Newcomer.{Admission, given_sheet, new_book, longer_causes, name_taken, users_at_limit}
use Rattle.spec.specs.Newcomer.{too_many_roles, newcomer_causes, newcomer_answer, buffer_admitting, Admits}
use Rattle.rules.specs.CauseLaws.{positive, zero_none_applies}
use Rattle.right.specs.Verdict.{check_number}
use Rattle.right.specs.Judgement.{first_of_both, second_of_both}
use Rattle.book_lines.specs.Writing.{Writes}

-- ---- one list of causes after another

kept_first : (a b : List Cause) {number : ℕ} → first_number a ≡ number → number ≢ 0 → first_number (a ++ b) ≡ number
kept_first a b e refuses = first_of_both a b (λ z. refuses (sym e ∙ z)) ∙ e

passed_on : (a b : List Cause) → So (positive a) → first_number a ≡ 0 → first_number (a ++ b) ≡ first_number b
passed_on a b above e = second_of_both a b (zero_none_applies a above e)

module _ (lent : Admission) (buffer : Bytes) where
  abbrev sheets : List Cause
  sheets = sheet_causes lent.sheet ++ longer_causes lent.sheet lent.line

  abbrev texts : List Cause
  texts = sheets ++ book_causes (given_sheet lent) lent.book

  abbrev room_causes : List Cause
  room_causes =
      record { number = 17; applies = name_taken lent }
      ∷ record { number = 18; applies = users_at_limit lent }
      ∷ record { number = 19; applies = too_many_roles lent }
      ∷ record { number = 11; applies = ltb (length buffer) (length (new_book lent)) }
      ∷ []

  -- the first number of all
  abbrev pub answered_number : ℕ
  answered_number = first_number (newcomer_causes lent buffer)

  in_order : answered_number ≡ first_number (texts ++ room_causes)
  unfolding newcomer_causes
  in_order = refl

  sheet_causes_above : So (positive (sheet_causes lent.sheet))
  unfolding sheet_causes
  sheet_causes_above = refl

  sheets_above : So (positive sheets)
  unfolding sheet_causes longer_causes
  sheets_above = refl

  texts_above : So (positive texts)
  unfolding sheet_causes longer_causes book_causes
  texts_above = refl

  -- ---- the sheet, the line, the book

  sheets_refuse : {number : ℕ} → first_number sheets ≡ number → number ≢ 0 → answered_number ≡ number
  sheets_refuse e refuses =
      in_order
      ∙ kept_first texts room_causes (kept_first sheets (book_causes (given_sheet lent) lent.book) e refuses) refuses

  pub sheet_refuses : {number : ℕ} → number ≡ refusal lent.sheet → number ≢ 0 → answered_number ≡ number
  unfolding refusal
  sheet_refuses e refuses =
      sheets_refuse
      (kept_first (sheet_causes lent.sheet) (longer_causes lent.sheet lent.line) (sym e) refuses) refuses

  module _ (accepts : refusal lent.sheet ≡ 0) where
    sheets_number : first_number sheets ≡ first_number (longer_causes lent.sheet lent.line)
    unfolding refusal
    sheets_number =
        passed_on (sheet_causes lent.sheet) (longer_causes lent.sheet lent.line) sheet_causes_above accepts

    pub line_refuses : {number : ℕ} → number ≡ first_number (longer_causes lent.sheet lent.line) → number ≢ 0
        → answered_number ≡ number
    line_refuses e refuses = sheets_refuse (sheets_number ∙ sym e) refuses

    book_number : (check lent.sheet lent.book).number ≡ first_number (book_causes (given_sheet lent) lent.book)
    unfolding check_causes refusal
    book_number =
        check_number lent.sheet lent.book
        ∙ passed_on (sheet_causes lent.sheet) (book_causes (given_sheet lent) lent.book) sheet_causes_above
        accepts

    module _ (addable : first_number (longer_causes lent.sheet lent.line) ≡ 0) where
      texts_number : first_number texts ≡ (check lent.sheet lent.book).number
      texts_number =
          passed_on sheets (book_causes (given_sheet lent) lent.book) sheets_above (sheets_number ∙ addable)
          ∙ sym book_number

      pub book_refuses : {answer : CheckAnswer} → Checks lent.sheet lent.book answer → answer.number ≢ 0
          → answered_number ≡ answer.number
      book_refuses {answer} checks refuses =
          in_order
          ∙ kept_first texts room_causes
          (texts_number ∙ ap (λ (a : CheckAnswer). a.number) (sym checks.answers)) refuses

      -- ---- the room

      module _ (stands : (check lent.sheet lent.book).number ≡ 0) where
        room_number : answered_number ≡ first_number room_causes
        room_number = in_order ∙ passed_on texts room_causes texts_above (texts_number ∙ stands)

        pub name_refuses : So (name_taken lent) → answered_number ≡ 17
        name_refuses taken = room_number ∙ rw taken

        pub users_refuse : name_taken lent ≡ false → So (users_at_limit lent) → answered_number ≡ 18
        users_refuse free full = room_number ∙ rw (free, full)

        module _ (free : name_taken lent ≡ false) (room : users_at_limit lent ≡ false) where
          pub roles_refuse : So (too_many_roles lent) → answered_number ≡ 19
          roles_refuse many = room_number ∙ rw (free, room, many)

          pub buffer_decides : too_many_roles lent ≡ false
              → answered_number ≡ refuse_if (ltb (length buffer) (length (new_book lent))) 11 0
          buffer_decides few = room_number ∙ rw (free, room, few)

  -- ---- the promise

  pub refused_by : {number : ℕ} {answer : WriteAnswer} → answered_number ≡ number → number ≢ 0
      → answer ≡ write_refused number → Admits lent buffer answer buffer
  unfolding newcomer_answer buffer_admitting
  refused_by {number} e refuses a =
      let apart = ne_eqb answered_number 0 (λ z. refuses (sym e ∙ z)) in
      record { answers = rw apart (a ∙ ap write_refused (sym e)); fills = rw apart }

  written_or_short : {answer : WriteAnswer} {after : Bytes}
      → answered_number ≡ refuse_if (ltb (length buffer) (length (new_book lent))) 11 0
      → Writes (new_book lent) buffer answer after → Admits lent buffer answer after
  unfolding newcomer_answer buffer_admitting
  written_or_short {answer} {after} e w = choose (ltb (length buffer) (length (new_book lent))) refl
    where
      choose : (short : Bool) → ltb (length buffer) (length (new_book lent)) ≡ short → Admits lent buffer answer after
      choose true s =
          let number : answered_number ≡ 11 = rw s at e in
          record { answers = rw number (rw s at w.answers); fills = rw number (rw s at w.leaves) }
      choose false s =
          let number : answered_number ≡ 0 = rw s at e in
          record { answers = rw number (rw s at w.answers); fills = rw number (rw s at w.leaves) }

  -- the same of a book that is the new one, and of an answer under another name
  pub written_as_new_book : {book after : Bytes} {answer said : WriteAnswer}
      → answered_number ≡ refuse_if (ltb (length buffer) (length (new_book lent))) 11 0 → book ≡ new_book lent
      → answer ≡ said → Writes book buffer said after → Admits lent buffer answer after
  written_as_new_book decides same told w = rw told (written_or_short decides (rw same at w))
