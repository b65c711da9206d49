-- Calls one after the other, refusals in their order, the lent buffer, the book program and the sequence, computed from
-- the definitions.
use Rattle.std.specs.Prelude.{refl, ◌≡◌, ◌∷◌, ◌++◌}
use Rattle.spec.specs.Vocabulary.{ℕ, true, false, none, some, List, [], map, take, length}
use Rattle.spec.specs.Vocabulary.{replicate, lowest_below}
use Rattle.spec.specs.Limits.{budget_limit, program_buffer}
use Rattle.spec.specs.Text.{Bytes, ascii}
use Rattle.spec.specs.Sheet.{sheet_of}
use Rattle.spec.specs.Machine.{search}
use Rattle.spec.specs.Roles.{searched, kernel_of, start_of, role_count, standing, bound}
use Rattle.spec.specs.Decimal.{decimal}
use Rattle.spec.specs.Book.{book}
use Rattle.spec.specs.Session.{Session, fresh, session_book}
use Rattle.spec.specs.Refusal.{refusal, not_reduced, search_causes, write_causes}
use Rattle.spec.specs.Calls.{after_load, reduce_answer, after_reduce, SearchAnswer, search_answer, searched_on}
use Rattle.spec.specs.Calls.{after_search, WriteAnswer, write_answer, buffer_after}
use Rattle.spec.specs.Program.{is_budget, budget_of, printed, program_output}
use Rattle.spec.specs.Sequence.{Call, load, reduce, search as searching, write, last_accepted, last_reduced}
use Rattle.spec.specs.Sequence.{budgets_given, enough}

-- ---- the lent buffer

worked : Bytes
worked = ascii "user,rec,id,map\nann,1,1,0\nbo,0,1,1\ncy,1,1,1\n"

-- its book, of 133 bytes
worked_book : Bytes
worked_book =
    ascii "roles,bound,state\n2,2,witnessed\n\nrole,rec,id,map\nR1,1,1,0\nR2,0,1,1\n\n"
    ++ ascii "user,R1,R2\nann,1,0\nbo,0,1\ncy,1,1\n\nuser,permission\nann,rec\nbo,map\n"

-- an answer, and the lent buffer after it
record Wrote : Type 0 where
  answer : WriteAnswer
  lent : Bytes

wrote : Session → ℕ → Wrote
unfolding write_answer write_causes buffer_after session_book book sheet_of decimal
wrote session room =
    record { answer = write_answer session (replicate room 7); lent = buffer_after session (replicate room 7) }

-- a session that has read a sheet, and one that has reduced it
reads : Session
unfolding worked after_load refusal sheet_of
reads = after_load fresh worked

reduces : Session
unfolding reads after_reduce start_of sheet_of kernel_of
reduces = after_reduce reads

wrote_worked : ℕ → Wrote
unfolding wrote reduces
wrote_worked room = wrote reduces room

-- with no sheet 10; with one that is not reduced 16, and the buffer untouched; a buffer that is one byte short 11, and
-- untouched; an exact one; of a longer one the bytes past the book stay
buffers : wrote fresh 3 ∷ wrote reads 3 ∷ wrote reads 135 ∷ map wrote_worked (132 ∷ 133 ∷ 135 ∷ [])
    ≡ record { answer = record { number = 10; count = 0 }; lent = 7 ∷ 7 ∷ 7 ∷ [] }
    ∷ record { answer = record { number = 16; count = 0 }; lent = 7 ∷ 7 ∷ 7 ∷ [] }
    ∷ record { answer = record { number = 16; count = 0 }; lent = replicate 135 7 }
    ∷ record { answer = record { number = 11; count = 0 }; lent = replicate 132 7 }
    ∷ record { answer = record { number = 0; count = 133 }; lent = worked_book }
    ∷ record { answer = record { number = 0; count = 133 }; lent = worked_book ++ 7 ∷ 7 ∷ [] }
    ∷ []
unfolding wrote wrote_worked reads reduces worked_book lowest_below
buffers = refl

-- ---- refusals in their order

-- the numbers of a reduction, of a search, and of a writing into no bytes and into 133
numbers_on : Session → List ℕ
unfolding reduce_answer search_answer searched_on search kernel_of sheet_of role_count bound standing write_answer
    write_causes session_book book decimal
numbers_on session =
    (reduce_answer session).number
    ∷ (search_answer session 3).number
    ∷ (write_answer session []).number
    ∷ (write_answer session (replicate 133 7)).number
    ∷ []

-- with no sheet; with one that is not reduced, where 16 is judged before 11; and with one that is reduced
in_order : map numbers_on (fresh ∷ reads ∷ reduces ∷ [])
    ≡ (10 ∷ 10 ∷ 10 ∷ 10 ∷ []) ∷ (0 ∷ 16 ∷ 16 ∷ 16 ∷ []) ∷ (0 ∷ 0 ∷ 11 ∷ 0 ∷ []) ∷ []
unfolding numbers_on reads reduces worked lowest_below
in_order = refl

-- on a sheet not reduced a buffer can be too short as well: then 11 is lower, and 16 is first
first_not_lowest : map (λ cause. cause.number) (write_causes reads []) ≡ 10 ∷ 16 ∷ 11 ∷ []
unfolding write_causes
first_not_lowest = refl

both_apply : map (λ cause. cause.applies) (write_causes reads []) ≡ false ∷ true ∷ true ∷ []
unfolding write_causes reads worked session_book book sheet_of start_of kernel_of decimal lowest_below
both_apply = refl

search_order : map (λ cause. cause.number) (search_causes reads) ≡ 10 ∷ 16 ∷ []
search_order = refl

-- 16 is about a sheet that is not reduced, and not about no sheet
unreduced : map not_reduced (fresh ∷ reads ∷ reduces ∷ []) ≡ false ∷ true ∷ false ∷ []
unfolding reads reduces worked
unreduced = refl

-- a refusal has counts 0 and names no state
refused_reduction : reduce_answer fresh ≡ record { number = 10; kernel = 0; witness = 0 }
unfolding reduce_answer
refused_reduction = refl

refused_search : search_answer reads 3 ≡
    record {
      number = 16;
      steps = 0;
      placed = 0;
      taken_back = 0;
      closed = 0;
      roles = 0;
      bound = 0;
      standing = none;
    }
unfolding search_answer reads worked
refused_search = refl

-- ---- one call after the other

-- the sheet of which the search finds a better placement in step 14 and closes in step 45
improves : Bytes
improves =
    ascii "user,a,b,c,d,e,f,g\nq,1,1,0,1,0,1,1\nr,1,1,0,1,1,1,1\ns,0,1,1,1,1,1,1\nt,1,1,0,1,0,1,0\nu,1,0,1,0,0,1,1\n"
    ++ ascii "v,1,1,1,0,1,1,1\nw,1,0,1,0,1,1,1\n"

-- after 17 steps
moved : Session
unfolding improves after_load after_reduce after_search searched_on refusal sheet_of start_of kernel_of search
moved = after_search (after_reduce (after_load fresh improves)) 17

-- the steps of a search of 100, and how many of them placed, took back and closed
steps_of : Session → List ℕ
unfolding search_answer searched_on search kernel_of sheet_of role_count bound standing
steps_of session =
    let answer : SearchAnswer = search_answer session 100 in
    answer.steps ∷ answer.placed ∷ answer.taken_back ∷ answer.closed ∷ []

-- a second search goes on where the first ended, also after a refused load and after one more reduction; after an
-- accepted load of the same sheet it makes no step before a reduction, and then starts anew
goes_on : map steps_of
    (moved ∷ after_load moved [] ∷ after_reduce moved ∷ after_load moved improves ∷ after_reduce
    (after_load moved improves) ∷ [])
    ≡ (28 ∷ 10 ∷ 17 ∷ 1 ∷ [])
    ∷ (28 ∷ 10 ∷ 17 ∷ 1 ∷ [])
    ∷ (28 ∷ 10 ∷ 17 ∷ 1 ∷ [])
    ∷ (0 ∷ 0 ∷ 0 ∷ 0 ∷ [])
    ∷ (45 ∷ 22 ∷ 22 ∷ 1 ∷ [])
    ∷ []
unfolding moved improves steps_of after_load after_reduce refusal sheet_of start_of kernel_of lowest_below
goes_on = refl

-- a search of a finished machine answers where it stands, with counts 0
finished_search : search_answer (after_search moved 28) 100
    ≡ record {
      number = 0;
      steps = 0;
      placed = 0;
      taken_back = 0;
      closed = 0;
      roles = 5;
      bound = 5;
      standing = some searched;
    }
unfolding moved improves after_search search_answer searched_on search kernel_of sheet_of start_of role_count bound
    standing lowest_below
finished_search = refl

-- to reduce a sheet that is reduced already changes nothing
same_session : after_reduce moved ≡ moved
unfolding after_reduce moved improves
same_session = refl

-- and it has the same counts, wherever its search stands
sizes : map (λ session. reduce_answer session) (after_load fresh improves ∷ moved ∷ [])
    ≡ record { number = 0; kernel = 10; witness = 4 } ∷ record { number = 0; kernel = 10; witness = 4 } ∷ []
unfolding moved improves reduce_answer after_load refusal sheet_of lowest_below
sizes = refl

-- a search and a refused load leave a sheet that is not reduced as it was
left_unreduced : after_search (after_load reads []) 5 ≡ reads
unfolding reads worked after_load after_search refusal
left_unreduced = refl

-- ---- the book program

-- a role has the users of its own grants and no others: x holds all that R2 holds, and has R1 alone
narrow : program_output (ascii "user,a,b\nx,1,1\ny,0,1\n") []
    ≡ ascii
    "roles,bound,state\n2,2,witnessed\n\nrole,a,b\nR1,1,1\nR2,0,1\n\nuser,R1,R2\nx,1,0\ny,0,1\n\nuser,permission\nx,a\ny,b\n"
unfolding program_output printed program_buffer write_answer write_causes buffer_after budget_of is_budget
    budget_limit after_load after_reduce after_search
    searched_on session_book refusal sheet_of kernel_of start_of search book decimal lowest_below
narrow = refl

-- a writing spells names as its sheet does
spelled_as_read : program_output (ascii "user,Rec,REC-2\nann,1,0\nBO,1,1\n") []
    ≡ ascii "roles,bound,state\n2,2,witnessed\n\nrole,Rec,REC-2\nR1,1,0\nR2,0,1\n\nuser,R1,R2\nann,1,0\nBO,1,1\n\n"
    ++ ascii "user,permission\nann,Rec\nBO,REC-2\n"
unfolding program_output printed program_buffer write_answer write_causes buffer_after budget_of is_budget
    budget_limit after_load after_reduce after_search
    searched_on session_book refusal sheet_of kernel_of start_of search book decimal lowest_below
spelled_as_read = refl

-- a kernel whose first two groupings have six classes each: the earlier named is taken
first_of_two : program_output improves []
    ≡ ascii "roles,bound,state\n6,4,open\n\nrole,a,b,c,d,e,f,g\nR1,1,1,0,1,0,1,0\nR2,0,1,0,1,0,1,1\nR3,0,1,0,0,1,0,0\n"
    ++ ascii
    "R4,0,0,1,0,0,1,1\nR5,1,0,0,0,0,1,0\nR6,0,0,0,0,1,0,0\n\nuser,R1,R2,R3,R4,R5,R6\nq,1,1,0,0,0,0\nr,1,1,1,0,0,0\n"
    ++ ascii
    "s,0,1,1,1,0,0\nt,1,0,0,0,0,0\nu,0,0,0,1,1,0\nv,0,0,1,1,1,1\nw,0,0,0,1,1,1\n\nuser,permission\nq,g\nr,e\ns,c\nt,d\n"
unfolding improves program_output printed program_buffer write_answer write_causes buffer_after budget_of
    is_budget budget_limit after_load after_reduce after_search searched_on session_book refusal sheet_of kernel_of
    start_of search book decimal lowest_below
first_of_two = refl

-- the budget is searched: 45 steps close the search
searches : take 31 (program_output improves (ascii "45" ∷ [])) ≡ ascii "roles,bound,state\n5,5,searched\n"
unfolding improves program_output printed program_buffer write_answer write_causes buffer_after budget_of
    is_budget budget_limit after_load after_reduce after_search searched_on session_book refusal sheet_of kernel_of
    start_of search book decimal lowest_below
searches = refl

-- a session whose book has 79 bytes
one_grant : Session
unfolding after_load after_reduce refusal sheet_of start_of kernel_of
one_grant = after_reduce (after_load fresh (ascii "user,a\nx,1\n"))

-- what is printed of it: the book from a buffer of 79 bytes, 11 from one of 78
short_buffers : map (λ room. length (printed one_grant (replicate room 0))) (79 ∷ 78 ∷ []) ≡ 79 ∷ 3 ∷ []
unfolding one_grant printed write_answer write_causes buffer_after session_book book sheet_of decimal lowest_below
short_buffers = refl

too_short : printed one_grant (replicate 78 0) ≡ ascii "11\n"
unfolding one_grant printed write_answer write_causes session_book book sheet_of decimal lowest_below
too_short = refl

-- a refused sheet prints its number and a line feed
refused : program_output [] [] ≡ ascii "2\n"
unfolding program_output refusal decimal
refused = refl

-- the greatest budget, and one beyond; no word, no digits, a sign, leading zeros; others are ignored
budgets : map budget_of
    ((ascii "4294967295" ∷ []) ∷ (ascii "4294967296" ∷ []) ∷ (ascii "" ∷ []) ∷ (ascii "1x" ∷ []) ∷ (ascii "-1" ∷ []) ∷
    (ascii "007" ∷ [])
    ∷ (ascii "5" ∷ ascii "6" ∷ []) ∷ [] ∷ [])
    ≡ 4_294_967_295 ∷ 0 ∷ 0 ∷ 0 ∷ 0 ∷ 7 ∷ 5 ∷ 0 ∷ []
unfolding budget_of is_budget budget_limit
budgets = refl

-- ---- the sequence of demand 3

-- 2·0 + 1, 2·1 + 1, 2·(1 + 2 + 6) + 1
enoughs : map enough (0 ∷ 1 ∷ 3 ∷ []) ≡ 1 ∷ 3 ∷ 19 ∷ []
enoughs = refl

-- the latest first: budgets before the first reduction after the last accepted load do not count; a refused load, a
-- writing and one more reduction change nothing
made : List Call
unfolding worked improves
made =
    searching 5 ∷ load [] ∷ write [] ∷ searching 2 ∷ reduce ∷ searching 7 ∷ reduce ∷ searching 11 ∷ load worked
    ∷ searching 9 ∷ reduce ∷ load improves ∷ []

given : budgets_given made ≡ 14
unfolding made worked improves refusal
given = refl

last : last_accepted made ∷ last_reduced made ∷ [] ≡ some worked ∷ some worked ∷ []
unfolding made worked improves refusal
last = refl

-- the same sheet once more: accepted, not reduced, and no budget counts, also after a refused load
once_more : List Call
unfolding made worked
once_more = searching 3 ∷ load [] ∷ searching 4 ∷ load worked ∷ made

given_before : budgets_given once_more ≡ 0
unfolding once_more made worked refusal
given_before = refl

last_unreduced : last_accepted once_more ∷ last_reduced once_more ∷ [] ≡ some worked ∷ none ∷ []
unfolding once_more made worked refusal
last_unreduced = refl

-- a reduction before any accepted load
sheetless : last_reduced (reduce ∷ load [] ∷ reduce ∷ []) ≡ none
unfolding refusal
sheetless = refl
