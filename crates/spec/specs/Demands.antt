-- The customer's three demands as statements. The limits that they speak of stand here and in `Rules`, `Right` and
-- `Admitted` as the papers have them, and not by the names that the tests and the machine use; so do 10, 16 and 11,
-- which demand 3 owes by the calls before. The numbers of sheets and books stand once, in `Refusal`, those of a
-- newcomer in `Newcomer`, 2·(1!+2!+..+k!)+1 in `Sequence`, and what equal names are in `Text`.
use Rattle.std.specs.Prelude.{◌+◌, ◌≤◌, ◌≡◌, ◌≢◌, ◌⊎◌, ◌↔◌, ◌∷◌, ◌++◌}
use Rattle.spec.specs.Vocabulary.{ℕ, So, false, none, some, List, []}
use Rattle.spec.specs.Vocabulary.{List-as-Memᴰ, length}
use Rattle.spec.specs.Text.{Bytes}
use Rattle.spec.specs.Sheet.{Sheet, sheet_of}
use Rattle.spec.specs.Rules.{Keeps}
use Rattle.spec.specs.Reduction.{kernel_size}
use Rattle.spec.specs.Machine.{State, Ran, depth}
use Rattle.spec.specs.RoleSet.{RoleSet, Multiplies}
use Rattle.spec.specs.Roles.{witnessed, searched, unsettled}
use Rattle.spec.specs.Book.{Said, book_text}
use Rattle.spec.specs.Right.{Right}
use Rattle.spec.specs.Session.{Session}
use Rattle.spec.specs.Refusal.{Cause, sheet_causes, reduce_causes, not_reduced, search_causes, write_causes}
use Rattle.spec.specs.Refusal.{check_causes, accepted}
use Rattle.spec.specs.Calls.{LoadAnswer, load_answer, load_refused, ReduceAnswer, reduce_refused, reduce_counts}
use Rattle.spec.specs.Calls.{SearchAnswer, search_refused, WriteAnswer, write_refused, CheckAnswer, check}
use Rattle.spec.specs.Calls.{check_refused, check_counts, Loads, Reduces, Searches, Writes, Checks}
use Rattle.spec.specs.Newcomer.{Admission, newcomer_causes, Admits}
use Rattle.spec.specs.Sequence.{Call, load, reduce, search, write, WriteOutcome, Outcome, Happens, Event, Led}
use Rattle.spec.specs.Sequence.{calls, last_accepted, last_reduced, budgets_given, searched_in_all, reached}
use Rattle.spec.specs.Sequence.{search_answers, total, enough, brought_out}

-- number is that of the first of the causes, in their order, that applies, and 0 exactly where none applies
pub record FirstThatApplies (causes : List Cause) (number : ℕ) : Type 0 where
  pub none_applies : number ≡ 0 → (cause : Cause) → List-as-Memᴰ cause causes → cause.applies ≡ false
  pub first : number ≢ 0 → (passed : List Cause) × (cause : Cause) × (later : List Cause)
      × (causes ≡ passed ++ cause ∷ later) × ((other : Cause) → List-as-Memᴰ other passed → other.applies ≡ false)
      × So cause.applies × (cause.number ≡ number)

-- what a call owes whose answer has this number: it is the first that applies, and a refusal is as it should be
pub record Judged (causes : List Cause) (number : ℕ) (Refused : Type 0) : Type 0 where
  pub first : FirstThatApplies causes number
  pub refused : number ≢ 0 → Refused

-- demand 1: every sheet, budget, book, user line and lent buffer, however wrong, gets a result or the first refusal
-- number that applies in the order of checks, and a refusal returns that number and counts 0 and leaves the session and
-- every lent byte untouched
pub record Demand1 : Type 0 where
  -- every call gets an answer, on every session
  pub answered : (call : Call) (before : Session) → (outcome : Outcome call) × (after : Session)
      × Happens call outcome before after
  pub checked : (sheet_bytes book_bytes : Bytes) → (answer : CheckAnswer) × Checks sheet_bytes book_bytes answer
  pub admission : (lent : Admission) (buffer : Bytes) → (answer : WriteAnswer) × (after : Bytes)
      × Admits lent buffer answer after
  -- and it is judged by its causes
  pub loads : (before after : Session) (text : Bytes) (answer : LoadAnswer) → Loads before text answer after
      → Judged (sheet_causes text) answer.number ((answer ≡ load_refused answer.number) × (after ≡ before))
  pub reduces : (before after : Session) (answer : ReduceAnswer) → Reduces before answer after
      → Judged (reduce_causes before) answer.number ((answer ≡ reduce_refused answer.number) × (after ≡ before))
  pub searches : (before after : Session) (budget : ℕ) (answer : SearchAnswer) → Searches before budget answer after
      → Judged (search_causes before) answer.number ((answer ≡ search_refused answer.number) × (after ≡ before))
  pub writes : (before after : Session) (buffer lent : Bytes) (answer : WriteAnswer) → Writes before buffer answer
      lent after
      → Judged (write_causes before buffer) answer.number
      ((answer ≡ write_refused answer.number) × (lent ≡ buffer) × (after ≡ before))
  pub checks : (sheet_bytes book_bytes : Bytes) (answer : CheckAnswer) → Checks sheet_bytes book_bytes answer
      → Judged (check_causes sheet_bytes book_bytes) answer.number (answer ≡ check_refused answer.number)
  pub admits : (lent : Admission) (before after : Bytes) (answer : WriteAnswer) → Admits lent before answer after
      → Judged (newcomer_causes lent before) answer.number
      ((answer ≡ write_refused answer.number) × (after ≡ before))

-- number is the lowest of the causes that apply, and 0 exactly where none applies
pub record LowestThatApplies (causes : List Cause) (number : ℕ) : Type 0 where
  pub none_lower : (cause : Cause) → List-as-Memᴰ cause causes → So cause.applies → (number ≢ 0)
      × (number ≤ cause.number)
  pub applies : number ≢ 0 → (cause : Cause) × List-as-Memᴰ cause causes × So cause.applies × (cause.number ≡ number)

-- demand 1 as document 01 has it: for its calls the first number that applies is the lowest. A writing has 16 before
-- 11: on a sheet not reduced, with too short a buffer, both apply and 16 is answered; on any other session 16 does not
-- apply
pub record FirstIsLowest : Type 0 where
  pub loads : (before after : Session) (text : Bytes) (answer : LoadAnswer) → Loads before text answer after
      → LowestThatApplies (sheet_causes text) answer.number
  pub searches : (before after : Session) (budget : ℕ) (answer : SearchAnswer) → Searches before budget answer after
      → LowestThatApplies (search_causes before) answer.number
  pub writes : (before after : Session) (buffer lent : Bytes) (answer : WriteAnswer) → Writes before buffer answer
      lent after
      → not_reduced before ≡ false → LowestThatApplies (write_causes before buffer) answer.number
  pub checks : (sheet_bytes book_bytes : Bytes) (answer : CheckAnswer) → Checks sheet_bytes book_bytes answer
      → LowestThatApplies (check_causes sheet_bytes book_bytes) answer.number

-- demand 2: a sheet is accepted exactly when it keeps the rules, and is then read as the sheet it is; the checker
-- accepts a book, whoever wrote it, exactly when form, counts, product and witness are right, and answers its counts;
-- and each book that a writing brings out is right for the sheet of the last accepted load: so its two matrices
-- multiply to that sheet, cell for cell; its names are spelled as that sheet spells them
pub record Demand2 : Type 0 where
  pub accepts_sheets : (text : Bytes) → ((load_answer text).number ≡ 0) ↔ ((sheet : Sheet) × Keeps text sheet)
  pub reads_sheets : (text : Bytes) (sheet : Sheet) → Keeps text sheet → sheet_of text ≡ sheet
  pub accepts_books : (text book : Bytes)
      → ((check text book).number ≡ 0) ↔ ((sheet : Sheet) × (says : Said) × Keeps text sheet × Right sheet book says)
  pub answers_counts : (text book : Bytes) (sheet : Sheet) (says : Said) → Keeps text sheet → Right sheet book says
      → check text book ≡ check_counts says
  pub own_books : (buffer : Bytes) (written : WriteOutcome) (earlier : List Event) (session : Session)
      → Led (record { call = write buffer; outcome = written } ∷ earlier) session → written.answer.number ≡ 0
      → (text : Bytes) × (says : Said) × (last_accepted (calls earlier) ≡ some text) × Right (sheet_of text)
      (brought_out written) says × (brought_out written ≡ book_text (sheet_of text) says)

-- what every book owes that was brought out for the sheet of the last accepted load, through what it says
pub record Believed (text book : Bytes) : Type 0 where
  pub says : Said
  -- byte for byte it is `book_text` of what it says: names spelled as in the sheet
  pub written : book ≡ book_text (sheet_of text) says
  -- form, counts, product and witness are right: so its product is the sheet
  pub right : Right (sheet_of text) book says
  -- every role set with that product has at least as many roles as the book's bound
  pub bounded : (roles : RoleSet) → Multiplies roles (sheet_of text) → says.bound ≤ roles.count
  -- where it says `witnessed` or `searched`, every such set has at least as many roles as the book
  pub smallest : (says.standing ≡ witnessed) ⊎ (says.standing ≡ searched)
      → (roles : RoleSet) → Multiplies roles (sheet_of text) → says.count ≤ roles.count
  -- the checker accepts it
  pub confirmed_by_check : check text book ≡ check_counts says

-- k is at most 128, and the budgets given reach `enough k`
pub record BudgetsSuffice (k given : ℕ) : Type 0 where
  pub searchable : k ≤ 128
  pub sufficient : enough k ≤ given

-- what is owed of a book that an accepted writing brought out, after the earlier calls
pub record BookOwed (book : Bytes) (earlier : List Call) : Type 0 where
  -- the sheet of the last accepted load, which was reduced since
  pub text : Bytes
  pub last : last_accepted earlier ≡ some text
  pub reduced : last_reduced earlier ≡ some text
  pub believed : Believed text book
  -- once the budgets since its first reduction add up, no book says `open`
  pub settled : BudgetsSuffice (kernel_size (sheet_of text)) (budgets_given earlier) → believed.says.standing ≢
      unsettled

-- what is owed of a load: it answers 0 exactly where its sheet is accepted
abbrev pub LoadOwed : Bytes → LoadAnswer → Type 0
LoadOwed text answer = (answer.number ≡ 0) ↔ So (accepted text)

-- what is owed of a reduction, after the earlier calls: 10 with no accepted sheet, and otherwise k and w of the sheet
-- of the last accepted load, whether it was reduced since or not
pub record ReduceOwed (answer : ReduceAnswer) (earlier : List Call) : Type 0 where
  pub sheetless : last_accepted earlier ≡ none → answer ≡ reduce_refused 10
  pub answered : (text : Bytes) → last_accepted earlier ≡ some text → answer ≡ reduce_counts (sheet_of text)

-- what a search owes that took the machine from one state to another
pub record StepsOwed (before after : State) (answer : SearchAnswer) : Type 0 where
  -- the three counts add up to the step count
  pub add_up : answer.placed + answer.taken_back + answer.closed ≡ answer.steps
  -- placed minus taken back is the depth gained, and falling below the start counts as negative
  pub depth_gained : depth after + answer.taken_back ≡ depth before + answer.placed
  -- at most one step closed, and one did exactly where this search closed the machine: it was not finished before, and
  -- now it is, with no grant placed
  pub closed_once : answer.closed ≤ 1
  pub closed_here : (answer.closed ≡ 1) ↔ ((before.finished ≡ false) × So after.finished × (depth after ≡ 0))

-- what is owed of a search, after the earlier calls
pub record SearchOwed (budget : ℕ) (answer : SearchAnswer) (earlier : List Call) : Type 0 where
  -- 10 with no accepted sheet, 16 with one that was not reduced since, and no refusal otherwise
  pub sheetless : last_accepted earlier ≡ none → answer ≡ search_refused 10
  pub unreduced : (text : Bytes) → last_accepted earlier ≡ some text → last_reduced earlier ≡ none
      → answer ≡ search_refused 16
  pub answered : (text : Bytes) → last_reduced earlier ≡ some text → answer.number ≡ 0
  -- once the budgets since its first reduction add up, the answering one included, no search answers `open`
  pub settled : (text : Bytes) → last_reduced earlier ≡ some text
      → BudgetsSuffice (kernel_size (sheet_of text)) (budget + budgets_given earlier) → answer.standing ≢ some
      unsettled
  -- what the steps were, from where the budgets given before had moved the machine to where this one moves it
  pub steps_owed : (text : Bytes) → last_reduced earlier ≡ some text
      → StepsOwed (reached text (budgets_given earlier)) (reached text (budget + budgets_given earlier)) answer

-- what is owed of a writing, after the earlier calls
pub record WriteOwed (buffer : Bytes) (written : WriteOutcome) (earlier : List Call) : Type 0 where
  -- 10 with no accepted sheet, 16 with one that was not reduced since, and otherwise no refusal but 11, which demand 1
  -- gives to a buffer shorter than the book, and none of a buffer of as many bytes as the checker takes
  pub sheetless : last_accepted earlier ≡ none → written.answer ≡ write_refused 10
  pub unreduced : (text : Bytes) → last_accepted earlier ≡ some text → last_reduced earlier ≡ none
      → written.answer ≡ write_refused 16
  pub only_short : (text : Bytes) → last_reduced earlier ≡ some text
      → (written.answer.number ≡ 0) ⊎ (written.answer ≡ write_refused 11)
  pub answered : (text : Bytes) → last_reduced earlier ≡ some text → 131_072 ≤ length buffer
      → written.answer.number ≡ 0
  pub book : written.answer.number ≡ 0 → BookOwed (brought_out written) earlier

-- what is owed of one outcome, after the earlier calls
abbrev pub Owed : (call : Call) → Outcome call → List Call → Type 0
Owed (load text) answer earlier = LoadOwed text answer
Owed reduce answer earlier = ReduceOwed answer earlier
Owed (search budget) answer earlier = SearchOwed budget answer earlier
Owed (write buffer) written earlier = WriteOwed buffer written earlier

-- what is owed of all outcomes of a sequence
abbrev pub OwedOfAll : List Event → Type 0
OwedOfAll [] = Unit {0}
OwedOfAll (event ∷ earlier) = Owed event.call event.outcome (calls earlier) × OwedOfAll earlier

-- some searches are together one that ran so: each of their counts adds up to its own
pub record Together (answers : List SearchAnswer) (ran : Ran) : Type 0 where
  pub steps : total (λ answer. answer.steps) answers ≡ ran.steps
  pub placed : total (λ answer. answer.placed) answers ≡ ran.kinds.placed
  pub taken_back : total (λ answer. answer.taken_back) answers ≡ ran.kinds.taken_back
  pub closed : total (λ answer. answer.closed) answers ≡ ran.kinds.closed

-- demand 3: one claim about every sequence of loads, reductions, searches and writings on one session, refused ones
-- included, from a fresh session. However the searches since the last accepted load shared out the budgets given, their
-- counts are together those of one search with all of them. No sequence is left out: whatever the calls are, there are
-- events and a session to which they led with exactly those calls
pub record Demand3 : Type 0 where
  pub owed : (events : List Event) (session : Session) → Led events session → OwedOfAll events
  pub together : (events : List Event) (session : Session) → Led events session → (text : Bytes)
      → last_reduced (calls events) ≡ some text
      → Together (search_answers events) (searched_in_all text (budgets_given (calls events)))
  pub happens : (made : List Call) → (events : List Event) × (session : Session) × Led events session
      × (calls events ≡ made)
