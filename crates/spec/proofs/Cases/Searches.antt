-- What the searches of a sequence answered, added up, beside one search with all budgets given, computed from the
-- definitions on the sheet whose search closes in step 45.
use Rattle.std.specs.Prelude.{◌≡◌, refl, ◌∷◌, ◌++◌}
use Rattle.spec.specs.Vocabulary.{ℕ, some, List, [], map, lowest_below}
use Rattle.spec.specs.Text.{Bytes, ascii}
use Rattle.spec.specs.Sheet.{sheet_of}
use Rattle.spec.specs.Machine.{Ran, depth, search}
use Rattle.spec.specs.Roles.{Standing, searched, unsettled, kernel_of, start_of}
use Rattle.spec.specs.Refusal.{refusal}
use Rattle.spec.specs.Calls.{load_refused, reduce_refused, SearchAnswer, search_refused, searched_on, write_refused}
use Rattle.spec.specs.Sequence.{load, reduce, search as searching, write, Event, calls, budgets_given}
use Rattle.spec.specs.Sequence.{searched_in_all, search_answers, total}

improves : Bytes
improves =
    ascii "user,a,b,c,d,e,f,g\nq,1,1,0,1,0,1,1\nr,1,1,0,1,1,1,1\ns,0,1,1,1,1,1,1\nt,1,1,0,1,0,1,0\nu,1,0,1,0,0,1,1\n"
    ++ ascii "v,1,1,1,0,1,1,1\nw,1,0,1,0,1,1,1\n"

-- what the searches answered, the latest first: two of the sheet that was loaded last, with a refused one before its
-- reduction; none of the searches before that load. What other calls answered is not looked at
event_of_search : ℕ → SearchAnswer → Event
event_of_search budget answer = record { call = searching budget; outcome = answer }

event_of_load : Bytes → Event
event_of_load text = record { call = load text; outcome = load_refused 0 }

reduction : Event
reduction = record { call = reduce; outcome = reduce_refused 0 }

writing : Event
writing = record { call = write []; outcome = record { answer = write_refused 0; lent = [] } }

-- figures of a search that left five roles
counted : ℕ → ℕ → ℕ → ℕ → ℕ → Standing → SearchAnswer
counted steps placed taken_back closed bound standing =
    record {
      number = 0;
      steps = steps;
      placed = placed;
      taken_back = taken_back;
      closed = closed;
      roles = 5;
      bound = bound;
      standing = some standing;
    }

happened : List Event
unfolding event_of_search event_of_load reduction writing counted improves
happened =
    event_of_search 100 (counted 28 10 17 1 5 searched)
    ∷ event_of_load []
    ∷ writing
    ∷ event_of_search 17 (counted 17 12 5 0 4 unsettled)
    ∷ reduction
    ∷ event_of_search 3 (search_refused 16)
    ∷ event_of_load improves
    ∷ event_of_search 45 (counted 45 22 22 1 5 searched)
    ∷ reduction
    ∷ event_of_load improves
    ∷ []

-- their counts added up, beside those of one search with the budgets given since the reduction
added_up : List ℕ
unfolding happened refusal event_of_search event_of_load reduction writing counted
added_up =
    let answers : List SearchAnswer = search_answers happened in
    total (λ answer. answer.steps) answers
    ∷ total (λ answer. answer.placed) answers
    ∷ total (λ answer. answer.taken_back) answers
    ∷ total (λ answer. answer.closed) answers
    ∷ budgets_given (calls happened)
    ∷ []

added : added_up ≡ 45 ∷ 22 ∷ 22 ∷ 1 ∷ 117 ∷ []
unfolding added_up happened improves refusal
added = refl

in_all : ℕ → List ℕ
unfolding searched_in_all searched_on search kernel_of sheet_of start_of improves
in_all given =
    let ran : Ran = searched_in_all improves given in
    ran.steps ∷ ran.kinds.placed ∷ ran.kinds.taken_back ∷ ran.kinds.closed ∷ depth ran.state ∷ []

one_search : map in_all (17 ∷ 44 ∷ 45 ∷ 117 ∷ [])
    ≡ (17 ∷ 12 ∷ 5 ∷ 0 ∷ 7 ∷ [])
    ∷ (44 ∷ 22 ∷ 22 ∷ 0 ∷ 0 ∷ [])
    ∷ (45 ∷ 22 ∷ 22 ∷ 1 ∷ 0 ∷ [])
    ∷ (45 ∷ 22 ∷ 22 ∷ 1 ∷ 0 ∷ [])
    ∷ []
unfolding in_all improves lowest_below
one_search = refl
