-- A newcomer to whom none of the causes up to 18 applies, and what was read of the book. Assumes nothing.
use Rattle.std.specs.Prelude.{ℕ, ◌≡◌, List}
use Rattle.spec.specs.Text.{Bytes}
use Rattle.spec.specs.Calls.{check}
use Rattle.spec.specs.Newcomer.{Admission, longer, given_sheet, newcomer}
use Rattle.longer.specs.Addable.{Addable}
use Rattle.checker.specs.ReadAs.{ReadAs}
use Rattle.judging.specs.declared.judgement.BookRead.{BookRead}

-- the text is the longer sheet, with so many users before the newcomer; the line can be added, the book is accepted,
-- and this is what was read of it
pub record Ready (lent : Admission) (text : Bytes) (users : ℕ) (read : BookRead) (has gives : List ℕ) : Type 0 where
  pub longer_text : text ≡ longer lent
  pub last : users ≡ newcomer lent
  pub addable : Addable lent
  pub book_accepted : (check lent.sheet lent.book).number ≡ 0
  pub as_read : ReadAs (given_sheet lent) lent.book read has gives

-- something is ready
pub record SomeReady (text : Bytes) (users : ℕ) (read : BookRead) (has gives : List ℕ) : Type 0 where
  pub lent : Admission
  pub ready : Ready lent text users read has gives
