-- The check, step by step: what each reading is handed, and the checker's answer where it refuses. A sheet is refused
-- by its number, and a book that is too long or lacks a block by 12.
use Rattle.std.specs.Prelude.{ℕ, ◌*◌, ◌≤◌, ◌<◌, ◌≡◌, length}
use Rattle.std.proofs.Common.{mul-le-mul_right, arith, sym, ap, ◌∙◌, eqb-true}
use Rattle.std.proofs.Math.Bool.{So}
use Rattle.spec.specs.Limits.{user_limit, book_limit}
use Rattle.spec.specs.Text.{Bytes}
use Rattle.spec.specs.Sheet.{sheet_of}
use Rattle.spec.specs.Refusal.{refusal, accepted}
use Rattle.spec.specs.Calls.{CheckAnswer, check_refused, Checks}
use Rattle.numbers.specs.Refusal.{number_of}
use Rattle.numbers.specs.declared.refusal.Refusal.{Refusal}
use Rattle.numbers.specs.declared.refusal.Refusal.TheVariants.{SheetTooLong, BadBytes, BadFirstLine, UserCount}
use Rattle.numbers.specs.declared.refusal.Refusal.TheVariants.{NameLength, UnevenLine, BadCell, NameTwice}
use Rattle.numbers.specs.declared.refusal.Refusal.TheVariants.{TooManyGrants, NoSheet, BufferTooShort, BookForm}
use Rattle.numbers.specs.declared.refusal.Refusal.TheVariants.{BookCounts, BookProduct, BookWitness, NotReduced}
use Rattle.numbers.specs.declared.refusal.Refusal.TheVariants.{NameTaken, UsersFull, RolesFull}
use Rattle.cell_rows.specs.Rows.{row_words}
use Rattle.names.specs.LaidOut.{LaidOut}
use Rattle.names.specs.declared.layout.Layout.{Layout}
use Rattle.rules.specs.AcceptedFacts.{accepted_lawful}
use Rattle.right.specs.Judgement.{refused_by_sheet, too_long_book, Unwritten, unwritten_book}

-- ---- rows to read into

-- rows of as many as there can be have room for as many as there are
pub rows_within : (rows limit size : ℕ) → rows ≤ limit → limit * row_words ≤ size → rows * row_words ≤ size
rows_within rows limit size h k = omega (arith, mul-le-mul_right row_words h)

-- there is a row for each user
pub users_within : {text : Bytes} {layout : Layout} → LaidOut text layout → (size : ℕ) → size ≡ user_limit * row_words
    → layout.users * row_words ≤ size
users_within {text} {layout} laid size e =
    let few = (accepted_lawful text laid.accepts).few_users in
    let total = laid.user_total in
    rows_within layout.users user_limit size (omega arith) (omega arith)

-- ---- the answer

-- a cause has no number 0
pub number_some : (cause : Refusal) → number_of cause ≡ 0 → ⊥
number_some SheetTooLong e = omega arith
number_some BadBytes e = omega arith
number_some BadFirstLine e = omega arith
number_some UserCount e = omega arith
number_some NameLength e = omega arith
number_some UnevenLine e = omega arith
number_some BadCell e = omega arith
number_some NameTwice e = omega arith
number_some TooManyGrants e = omega arith
number_some NoSheet e = omega arith
number_some BufferTooShort e = omega arith
number_some BookForm e = omega arith
number_some BookCounts e = omega arith
number_some BookProduct e = omega arith
number_some BookWitness e = omega arith
number_some NotReduced e = omega arith
number_some NameTaken e = omega arith
number_some UsersFull e = omega arith
number_some RolesFull e = omega arith

pub refused_for_sheet : {text book : Bytes} {answer : CheckAnswer} {number : ℕ} → number ≡ refusal text
    → (number ≡ 0 → ⊥)
    → answer ≡ check_refused number
    → Checks text book answer
refused_for_sheet {text} {book} e h a =
    record { answers = a ∙ ap check_refused e ∙ sym (refused_by_sheet text book (λ none. h (e ∙ none))) }

module _ {text book : Bytes} (stands : So (accepted text)) where
  pub refused_too_long : book_limit < length book → Checks text book (check_refused 12)
  refused_too_long h = record { answers = sym (too_long_book text book (eqb-true (refusal text) 0 stands) h) }

  pub refused_for_form : Unwritten (sheet_of text) book → Checks text book (check_refused 12)
  refused_for_form u = record { answers = sym (unwritten_book text book (eqb-true (refusal text) 0 stands) u) }
