-- A book that the checker accepts, as it was read: the counts, the two matrices and the witness say what the book says,
-- and the book is right.
use Rattle.std.specs.Prelude.{ℕ, ◌≤◌, ◌<◌, ◌≡◌, false, List, Result, Ok, Err}
use Rattle.spec.specs.Text.{Bytes}
use Rattle.spec.specs.Sheet.{Sheet, user_count}
use Rattle.spec.specs.Book.{Said}
use Rattle.spec.specs.Form.{said}
use Rattle.spec.specs.Right.{Right}
use Rattle.spec.specs.Calls.{CheckAnswer, check_refused}
use Rattle.numbers.specs.Refusal.{number_of}
use Rattle.numbers.specs.declared.refusal.Refusal.{Refusal}
use Rattle.cell_rows.specs.Rows.{row_bits, cell}
use Rattle.cells_read.specs.RowGrown.{Blank}
use Rattle.right.specs.ReadBack.{SaysSame}
use Rattle.judging.specs.declared.judgement.BookRead.{BookRead}
use Rattle.judging.specs.BookSays.{Says}

-- the rows of `has` are those of the users, with a cell for each role, and the rows of `gives` those of the roles, with
-- a cell for each permission (`Says` `.beyond`): they have nothing else
pub record ReadAs (sheet : Sheet) (book : Bytes) (r : BookRead) (has gives : List ℕ) : Type 0 where
  pub says : Said
  pub says_read : Says sheet r.counts r.roles has gives r.witness says
  pub same : SaysSame sheet (said sheet book) says
  pub right : Right sheet book (said sheet book)
  pub role_cells : (u k : ℕ) → u < user_count sheet → r.roles ≤ k → k < row_bits → cell has u k ≡ false
  pub user_rows : (u : ℕ) → user_count sheet ≤ u → Blank has u
  pub role_rows : (k : ℕ) → r.roles ≤ k → Blank gives k

-- the checker's answer: the counts of what was read, or why the book is refused
abbrev pub book_answer : Result BookRead Refusal → CheckAnswer
book_answer (Ok r) = record { number = 0; roles = r.roles; witness_lines = r.witness.lines }
book_answer (Err cause) = check_refused (number_of cause)
