-- "Around the edges": the paper's edge cases and the four slips to shut out, computed together from the definitions.
use Rattle.spec.specs.Vocabulary.{ℕ, some, List, [], map, lowest_below}
use Rattle.std.specs.Prelude.{◌≡◌, refl, ◌∷◌}
use Rattle.spec.specs.Limits.{budget_limit, program_buffer}
use Rattle.spec.specs.Text.{Bytes, ascii}
use Rattle.spec.specs.Sheet.{Grant, sheet_of}
use Rattle.spec.specs.Reduction.{kernel}
use Rattle.spec.specs.Witness.{witness}
use Rattle.spec.specs.Machine.{Kinds, no_kinds, depth, search}
use Rattle.spec.specs.Roles.{Standing, witnessed, searched, unsettled, kernel_of, start_of, role_count, bound}
use Rattle.spec.specs.Roles.{standing}
use Rattle.spec.specs.Decimal.{decimal}
use Rattle.spec.specs.Book.{book}
use Rattle.spec.specs.Session.{Session, no_sheet, read, reduced, fresh, session_book}
use Rattle.spec.specs.Refusal.{refusal, write_causes}
use Rattle.spec.specs.Calls.{LoadAnswer, load_answer, load_refused, after_load, ReduceAnswer, reduce_answer}
use Rattle.spec.specs.Calls.{reduce_refused, after_reduce, SearchAnswer, search_answer, search_refused}
use Rattle.spec.specs.Calls.{searched_on, after_search, write_answer, buffer_after}
use Rattle.spec.specs.Program.{is_budget, budget_of, printed, program_output}

-- a sheet to load into a fresh session and to reduce, and the budget of one search after it
record Trial : Type 0 where
  sheet : Bytes
  budget : ℕ

-- what they answer, the witness of the sheet, and the depth then
record Finding : Type 0 where
  load : LoadAnswer
  reduce : ReduceAnswer
  witness : List Grant
  search : SearchAnswer
  depth : ℕ

depth_in_session : Session → ℕ
depth_in_session no_sheet = 0
depth_in_session (read text) = 0
depth_in_session (reduced text st) = depth st

session_witness : Session → List Grant
unfolding witness sheet_of
session_witness no_sheet = []
session_witness (read text) = []
session_witness (reduced text st) = witness (sheet_of text)

finding : Trial → Finding
unfolding load_answer reduce_answer search_answer after_load after_reduce after_search depth_in_session
    session_witness searched_on refusal sheet_of kernel witness start_of kernel_of search role_count bound standing
finding trial =
    let loaded : Session = after_load fresh trial.sheet in
    let session : Session = after_reduce loaded in
    record {
      load = load_answer trial.sheet;
      reduce = reduce_answer loaded;
      witness = session_witness session;
      search = search_answer session trial.budget;
      depth = depth_in_session (after_search session trial.budget);
    }

-- the sheet of the paper's example
worked : Bytes
worked = ascii "user,rec,id,map\nann,1,1,0\nbo,0,1,1\ncy,1,1,1\n"

-- n users each lacking only their own permission
crown_of_three : Bytes
crown_of_three = ascii "user,a,b,c\nx,0,1,1\ny,1,0,1\nz,1,1,0\n"

crown_of_four : Bytes
crown_of_four = ascii "user,a,b,c,d\nw,0,1,1,1\nx,1,0,1,1\ny,1,1,0,1\nz,1,1,1,0\n"

-- a sheet whose search finds a better placement in step 14, and closes in step 45. Were the classes in use not held
-- below the new class count, step 17 would go another way; were class number b - 1 opened, step 20
improves : Bytes
improves =
    ascii
    "user,a,b,c,d,e,f,g\nq,1,1,0,1,0,1,1\nr,1,1,0,1,1,1,1\ns,0,1,1,1,1,1,1\nt,1,1,0,1,0,1,0\nu,1,0,1,0,0,1,1\nv,1,1,1,0,1,1,1\nw,1,0,1,0,1,1,1\n"

-- a sheet with a kernel and a single, whose search reaches w in step 21: a machine that does not look for w then, or
-- leaves out the single, goes on
reaches : Bytes
reaches = ascii "user,a,b,c,d,e\nv,1,1,1,1,0\nw,1,1,0,1,0\nx,1,0,0,1,1\ny,0,1,1,0,1\nz,0,1,0,1,1\n"

trial : Bytes → ℕ → Trial
trial sheet budget = record { sheet = sheet; budget = budget }

-- counts of an accepted load, and of a reduction
counts : ℕ → ℕ → ℕ → LoadAnswer
counts users permissions grants = record { number = 0; users = users; permissions = permissions; grants = grants }

sizes : ℕ → ℕ → ReduceAnswer
sizes kernel witness = record { number = 0; kernel = kernel; witness = witness }

-- what the steps of a search were: how many placed, took back and closed
kinds : ℕ → ℕ → ℕ → Kinds
kinds placed taken_back closed = record { placed = placed; taken_back = taken_back; closed = closed }

-- figures of an accepted search
figures : ℕ → Kinds → ℕ → ℕ → Standing → SearchAnswer
figures steps were roles bound standing =
    record {
      number = 0;
      steps = steps;
      placed = were.placed;
      taken_back = were.taken_back;
      closed = were.closed;
      roles = roles;
      bound = bound;
      standing = some standing;
    }

-- of one that made no step
unmoved : ℕ → ℕ → Standing → SearchAnswer
unfolding figures
unmoved roles bound standing = figures 0 no_kinds roles bound standing

trials : List Trial
unfolding trial worked crown_of_three crown_of_four improves reaches
trials =
    trial worked 0
    ∷ trial (ascii "user,a\nx,0\n") 0
    ∷ trial (ascii "user,a,b\nx,1,1\n") 0
    ∷ trial crown_of_three 5
    ∷ trial crown_of_four 0
    ∷ trial crown_of_four 1
    ∷ trial crown_of_four 125
    ∷ trial (ascii "user,a\nabcdefghijklmnop,1\n") 0
    ∷ trial (ascii "user,a\nabcdefghijklmnopq,1\n") 0
    ∷ trial (ascii "user,a\nAnn,1\nann,0\n") 0
    ∷ trial [] 0
    ∷ trial (ascii "user,a,b\nx,1,1\ny,1,1\n") 0
    ∷ trial improves 17
    ∷ trial improves 20
    ∷ trial improves 100
    ∷ trial reaches 0
    ∷ trial reaches 20
    ∷ trial reaches 100
    ∷ trial (ascii "user,a,b,c,d\nw,1,1,0,0\nx,1,0,1,0\ny,0,1,1,1\nz,1,0,1,1\n") 0
    ∷ []

-- the grant of a user and a permission
at : ℕ → ℕ → Grant
at u p = record { user = u; permission = p }

found : LoadAnswer → ReduceAnswer → List Grant → SearchAnswer → ℕ → Finding
found load reduce witness search reached =
    record { load = load; reduce = reduce; witness = witness; search = search; depth = reached }

crown_witness : List Grant
unfolding at
crown_witness = at 0 1 ∷ at 1 2 ∷ at 2 0 ∷ []

improves_witness : List Grant
unfolding at
improves_witness = at 0 6 ∷ at 1 4 ∷ at 2 2 ∷ at 3 3 ∷ []

reaches_witness : List Grant
unfolding at
reaches_witness = at 0 2 ∷ at 1 0 ∷ at 2 4 ∷ at 4 1 ∷ []

-- the starred cases of "Around the edges" in its order, `Ann` and `ann` an 8 as request [3] has it, and the four-user
-- search closed; then sheets for the slips, and last one that takes four sweeps
edges : map finding trials ≡
    found (counts 3 3 7) (sizes 0 2) (at 0 0 ∷ at 1 2 ∷ []) (unmoved 2 2 witnessed) 0
    ∷ found (counts 1 1 0) (sizes 0 0) [] (unmoved 0 0 witnessed) 0
    ∷ found (counts 1 2 2) (sizes 0 1) (at 0 1 ∷ []) (unmoved 1 1 witnessed) 0
    ∷ found (counts 3 3 6) (sizes 6 3) crown_witness (unmoved 3 3 witnessed) 0
    ∷ found (counts 4 4 12) (sizes 12 3) crown_witness (unmoved 4 3 unsettled) 0
    ∷ found (counts 4 4 12) (sizes 12 3) crown_witness (figures 1 (kinds 1 0 0) 4 3 unsettled) 1
    ∷ found (counts 4 4 12) (sizes 12 3) crown_witness (figures 125 (kinds 62 62 1) 4 4 searched) 0
    ∷ found (counts 1 1 1) (sizes 0 1) (at 0 0 ∷ []) (unmoved 1 1 witnessed) 0
    ∷ found (load_refused 5) (reduce_refused 10) [] (search_refused 10) 0
    ∷ found (load_refused 8) (reduce_refused 10) [] (search_refused 10) 0
    ∷ found (load_refused 2) (reduce_refused 10) [] (search_refused 10) 0
    ∷ found (counts 2 2 4) (sizes 0 1) (at 1 1 ∷ []) (unmoved 1 1 witnessed) 0
    ∷ found (counts 7 7 36) (sizes 10 4) improves_witness (figures 17 (kinds 12 5 0) 5 4 unsettled) 7
    ∷ found (counts 7 7 36) (sizes 10 4) improves_witness (figures 20 (kinds 12 8 0) 5 4 unsettled) 4
    ∷ found (counts 7 7 36) (sizes 10 4) improves_witness (figures 45 (kinds 22 22 1) 5 5 searched) 0
    ∷ found (counts 5 5 16) (sizes 7 4) reaches_witness (unmoved 5 4 unsettled) 0
    ∷ found (counts 5 5 16) (sizes 7 4) reaches_witness (figures 20 (kinds 13 7 0) 5 4 unsettled) 6
    ∷ found (counts 5 5 16) (sizes 7 4) reaches_witness (figures 21 (kinds 14 7 0) 4 4 witnessed) 7
    ∷ found (counts 4 4 10) (sizes 0 4) (at 0 0 ∷ at 1 2 ∷ at 2 1 ∷ at 3 3 ∷ []) (unmoved 4 4 witnessed) 0
    ∷ []
unfolding finding trials counts sizes kinds figures unmoved found at crown_witness improves_witness reaches_witness
    lowest_below
edges = refl

-- the worked example's whole book from the sheet's bytes
worked_book : program_output worked [] ≡
    ascii
    "roles,bound,state\n2,2,witnessed\n\nrole,rec,id,map\nR1,1,1,0\nR2,0,1,1\n\nuser,R1,R2\nann,1,0\nbo,0,1\ncy,1,1\n\nuser,permission\nann,rec\nbo,map\n"
unfolding program_output printed program_buffer write_answer write_causes buffer_after worked lowest_below
    budget_of is_budget budget_limit after_load after_reduce after_search searched_on session_book refusal sheet_of
    kernel_of start_of search book decimal
worked_book = refl
