-- "The search machine" over a kernel: where it stands, one step, and a search within a budget.
use Rattle.std.specs.Prelude.{◌+◌, ◌&&◌, ◌∷◌}
use Rattle.spec.specs.Vocabulary.{ℕ, zero, suc, max, Bool, true, cond, Option, none, some, List, []}
use Rattle.spec.specs.Vocabulary.{eqb, leb, ltb, length, lowest_below}
use Rattle.spec.specs.Limits.{search_limit}
use Rattle.spec.specs.Cover.{used, joins}

-- what a search is about: k kernel grants, which of them fit, the number of singles, and w
pub record Kernel : Type 0 where
  pub size : ℕ
  pub fit : ℕ → ℕ → Bool
  pub singles : ℕ
  pub witness : ℕ

-- the machine's state: the classes of the first d kernel grants, the latest first, so that d is their number; the next
-- try t; the best placement, whose class count is b; finished or not
pub record State : Type 0 where
  pub placed : List ℕ
  pub next : ℕ
  pub best : List ℕ
  pub finished : Bool

-- depth d
abbrev pub depth : State → ℕ
depth st = length st.placed

-- the class count b of the best placement
abbrev pub best_count : State → ℕ
best_count st = used st.best

-- a placement with which the search is finished: its classes plus singles equal w
abbrev pub reaches_witness : Kernel → List ℕ → Bool
reaches_witness kernel placed = eqb (used placed + kernel.singles) kernel.witness

-- it starts with d = 0, t = 0, finished if b plus singles equals w
abbrev pub start : Kernel → List ℕ → State
start kernel first = record { placed = []; next = 0; best = first; finished = reaches_witness kernel first }

-- d < k, c is not below t, the larger of used and c + 1 is below b, and grant d fits all earlier members of c
abbrev pub possible : Kernel → State → ℕ → Bool
possible kernel st c =
    ltb (depth st) kernel.size
    && leb st.next c
    && ltb (max (used st.placed) (suc c)) (best_count st)
    && joins kernel.fit (depth st) st.placed c

-- the lowest possible class from t up to used
abbrev pub choice : Kernel → State → Option ℕ
choice kernel st = lowest_below (suc (used st.placed)) (possible kernel st)

-- with all k placed the placement is copied whole as the best one, and the machine is finished if b plus singles
-- equals w
abbrev pub improved : Kernel → State → State
improved kernel st =
    record { placed = st.placed; next = st.next; best = st.placed; finished = reaches_witness kernel st.placed }

-- place it: d grows by 1, t = 0
abbrev pub placed_in : State → ℕ → State
placed_in st c = record { placed = c ∷ st.placed; next = 0; best = st.best; finished = st.finished }

abbrev pub place : Kernel → State → ℕ → State
place kernel st c =
    let after : State = placed_in st c in
    cond (eqb (depth after) kernel.size) (improved kernel after) after

-- which of the three a step was: it placed one grant, took one back, or closed the search
pub data StepKind : Type 0 where
  placing : StepKind
  taking_back : StepKind
  closing : StepKind

-- the next state, and which of the three the step was
pub record Step : Type 0 where
  pub state : State
  pub kind : StepKind

-- nothing is left to try: if d = 0, the search is closed: finished; otherwise d falls by 1 and t is the class taken
-- back plus 1
abbrev pub take_back_or_close : State → List ℕ → Step
take_back_or_close st [] =
    record { state = record { placed = []; next = st.next; best = st.best; finished = true }; kind = closing }
take_back_or_close st (a ∷ earlier) =
    record {
      state = record { placed = earlier; next = suc a; best = st.best; finished = st.finished };
      kind = taking_back;
    }

abbrev pub move : Kernel → State → Option ℕ → Step
move kernel st (some c) = record { state = place kernel st c; kind = placing }
move kernel st none = take_back_or_close st st.placed

-- one step places one grant, takes one back, or closes the search. No list of classes is placed twice within one load:
-- the law `placed_once_a_load` (demands, PlacedOnce)
unfoldable pub step : Kernel → State → Step
step kernel st = move kernel st (choice kernel st)

-- how many of some steps placed, took back and closed
pub record Kinds : Type 0 where
  pub placed : ℕ
  pub taken_back : ℕ
  pub closed : ℕ

abbrev pub no_kinds : Kinds
no_kinds = record { placed = 0; taken_back = 0; closed = 0 }

-- one more of a kind
abbrev pub counted : StepKind → Kinds → Kinds
counted placing n = record { placed = suc n.placed; taken_back = n.taken_back; closed = n.closed }
counted taking_back n = record { placed = n.placed; taken_back = suc n.taken_back; closed = n.closed }
counted closing n = record { placed = n.placed; taken_back = n.taken_back; closed = suc n.closed }

-- where some steps led, how many they were, and how many of each kind
pub record Ran : Type 0 where
  pub state : State
  pub steps : ℕ
  pub kinds : Kinds

abbrev pub no_step : State → Ran
no_step st = record { state = st; steps = 0; kinds = no_kinds }

-- a step of this kind, and then those
abbrev pub one_more : StepKind → Ran → Ran
one_more kind ran = record { state = ran.state; steps = suc ran.steps; kinds = counted kind ran.kinds }

-- as many steps as the budget, or those left until finished if fewer
unfoldable pub run : Kernel → ℕ → State → Ran
unfolding step
run kernel zero st = no_step st
run kernel (suc budget) st =
    let made : Step = step kernel st in
    let later : Ran = one_more made.kind (run kernel budget made.state) in
    cond st.finished (no_step st) later

-- a search: with k above 128 it makes no step
unfoldable pub search : Kernel → ℕ → State → Ran
unfolding run search_limit
search kernel budget st =
    let ran : Ran = run kernel budget st in
    cond (ltb search_limit kernel.size) (no_step st) ran
