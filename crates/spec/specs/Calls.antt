-- The calls: what each answers, the session and the lent buffer after it, and what it promises.
use Rattle.std.specs.Prelude.{◌≡◌, ◌++◌}
use Rattle.spec.specs.Vocabulary.{ℕ, cond, Option, none, some, eqb, length, drop}
use Rattle.spec.specs.Text.{Bytes}
use Rattle.spec.specs.Sheet.{Sheet, sheet_of, user_count, permission_count, grants}
use Rattle.spec.specs.Reduction.{kernel_size}
use Rattle.spec.specs.Witness.{witness_size}
use Rattle.spec.specs.Machine.{State, Ran, search}
use Rattle.spec.specs.Roles.{Standing, kernel_of, start_of, role_count, standing, bound}
use Rattle.spec.specs.Book.{Said}
use Rattle.spec.specs.Form.{said}
use Rattle.spec.specs.Session.{Session, no_sheet, read, reduced, session_book}
use Rattle.spec.specs.Refusal.{first_number, refusal, accepted, reduce_causes, search_causes, write_causes}
use Rattle.spec.specs.Refusal.{check_causes}

-- an accepted load answers users, permissions and grants; a refusal the number, and counts 0
pub record LoadAnswer : Type 0 where
  pub number : ℕ
  pub users : ℕ
  pub permissions : ℕ
  pub grants : ℕ

abbrev pub load_refused : ℕ → LoadAnswer
load_refused number = record { number = number; users = 0; permissions = 0; grants = 0 }

abbrev pub load_counts : Sheet → LoadAnswer
load_counts sheet =
    record {
      number = 0;
      users = user_count sheet;
      permissions = permission_count sheet;
      grants = length (grants sheet);
    }

unfoldable pub load_answer : Bytes → LoadAnswer
load_answer text =
    let counts : LoadAnswer = load_counts (sheet_of text) in
    cond (accepted text) counts (load_refused (refusal text))

-- an accepted load leaves its sheet not reduced; a refused one leaves the session as it was
unfoldable pub after_load : Session → Bytes → Session
after_load session text = cond (accepted text) (read text) session

-- a reduction answers k and w; a refusal the number, and counts 0
pub record ReduceAnswer : Type 0 where
  pub number : ℕ
  pub kernel : ℕ
  pub witness : ℕ

abbrev pub reduce_refused : ℕ → ReduceAnswer
reduce_refused number = record { number = number; kernel = 0; witness = 0 }

abbrev pub reduce_counts : Sheet → ReduceAnswer
reduce_counts sheet = record { number = 0; kernel = kernel_size sheet; witness = witness_size sheet }

-- a sheet that is reduced already has the same counts
unfoldable pub reduce_answer : Session → ReduceAnswer
reduce_answer no_sheet = reduce_refused (first_number (reduce_causes no_sheet))
reduce_answer (read text) = reduce_counts (sheet_of text)
reduce_answer (reduced text st) = reduce_counts (sheet_of text)

-- a sheet is reduced and the machine starts with the first cover; to reduce one that is reduced does nothing
unfoldable pub after_reduce : Session → Session
after_reduce no_sheet = no_sheet
after_reduce (read text) = reduced text (start_of (sheet_of text))
after_reduce (reduced text st) = reduced text st

-- a search answers its steps, how many of them placed, took back and closed, roles, bound and state; a refused one
-- names no state
pub record SearchAnswer : Type 0 where
  pub number : ℕ
  pub steps : ℕ
  pub placed : ℕ
  pub taken_back : ℕ
  pub closed : ℕ
  pub roles : ℕ
  pub bound : ℕ
  pub standing : Option Standing

abbrev pub search_refused : ℕ → SearchAnswer
search_refused number =
    record {
      number = number;
      steps = 0;
      placed = 0;
      taken_back = 0;
      closed = 0;
      roles = 0;
      bound = 0;
      standing = none;
    }

-- the session's own position moved forward
unfoldable pub searched_on : Bytes → ℕ → State → Ran
searched_on text budget st = search (kernel_of (sheet_of text)) budget st

abbrev pub search_found : Sheet → Ran → SearchAnswer
search_found sheet ran =
    record {
      number = 0;
      steps = ran.steps;
      placed = ran.kinds.placed;
      taken_back = ran.kinds.taken_back;
      closed = ran.kinds.closed;
      roles = role_count sheet ran.state;
      bound = bound sheet ran.state;
      standing = some (standing sheet ran.state);
    }

unfoldable pub search_answer : Session → ℕ → SearchAnswer
search_answer no_sheet budget = search_refused (first_number (search_causes no_sheet))
search_answer (read text) budget = search_refused (first_number (search_causes (read text)))
search_answer (reduced text st) budget = search_found (sheet_of text) (searched_on text budget st)

unfoldable pub after_search : Session → ℕ → Session
after_search no_sheet budget = no_sheet
after_search (read text) budget = read text
after_search (reduced text st) budget = reduced text (searched_on text budget st).state

-- a writing answers its byte count
pub record WriteAnswer : Type 0 where
  pub number : ℕ
  pub count : ℕ

abbrev pub write_refused : ℕ → WriteAnswer
write_refused number = record { number = number; count = 0 }

unfoldable pub write_answer : Session → Bytes → WriteAnswer
write_answer session buffer =
    let number : ℕ = first_number (write_causes session buffer) in
    cond (eqb number 0) (record { number = 0; count = length (session_book session) }) (write_refused number)

-- the lent buffer after a writing: the book, and past it the buffer's own bytes; untouched by a refusal
unfoldable pub buffer_after : Session → Bytes → Bytes
buffer_after session buffer =
    let written : Bytes = session_book session ++ drop (length (session_book session)) buffer in
    cond (eqb (first_number (write_causes session buffer)) 0) written buffer

-- the checker's answer: roles and witness lines; or a number, and counts 0
pub record CheckAnswer : Type 0 where
  pub number : ℕ
  pub roles : ℕ
  pub witness_lines : ℕ

abbrev pub check_refused : ℕ → CheckAnswer
check_refused number = record { number = number; roles = 0; witness_lines = 0 }

abbrev pub check_counts : Said → CheckAnswer
check_counts says = record { number = 0; roles = says.roles.count; witness_lines = length says.witness }

unfoldable pub check : Bytes → Bytes → CheckAnswer
unfolding check_causes said sheet_of
check sheet_bytes book_bytes =
    let number : ℕ = first_number (check_causes sheet_bytes book_bytes) in
    cond (eqb number 0) (check_counts (said (sheet_of sheet_bytes) book_bytes)) (check_refused number)

-- what a load promises: its answer and the session after it
pub record Loads (before : Session) (text : Bytes) (answer : LoadAnswer) (after : Session) : Type 0 where
  pub answers : answer ≡ load_answer text
  pub leaves : after ≡ after_load before text

-- what a reduction promises
pub record Reduces (before : Session) (answer : ReduceAnswer) (after : Session) : Type 0 where
  pub answers : answer ≡ reduce_answer before
  pub leaves : after ≡ after_reduce before

-- what a search promises
pub record Searches (before : Session) (budget : ℕ) (answer : SearchAnswer) (after : Session) : Type 0 where
  pub answers : answer ≡ search_answer before budget
  pub leaves : after ≡ after_search before budget

-- what a writing promises: its answer, the lent buffer and the session after it
pub record Writes (before : Session) (buffer : Bytes) (answer : WriteAnswer) (lent : Bytes) (after : Session) : Type 0
  where
    pub answers : answer ≡ write_answer before buffer
    pub fills : lent ≡ buffer_after before buffer
    pub leaves : after ≡ before

-- what a check promises: its answer; it has no session and writes nothing
pub record Checks (sheet_bytes book_bytes : Bytes) (answer : CheckAnswer) : Type 0 where
  pub answers : answer ≡ check sheet_bytes book_bytes
