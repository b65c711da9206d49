-- What holds of every run and every search: a finished state stays, two runs are one, no run makes more steps than
-- its budget or stops early unfinished, and what each step keeps every run keeps. Each law is an induction on the
-- budget by `run_finished` and `run_step`. Assumes nothing.
use Rattle.std.specs.Prelude.{ℕ, zero, suc, ◌+◌, ◌-◌, ◌≤◌, ◌<◌, ◌≡◌, refl, false}
use Rattle.std.proofs.Common.{zero-le, suc-le-suc, sym, ap, ⊎_elim, zero-add, suc-add, add-suc, add-sub_of_le, add-one, arith, lt-ltb, le-ltb}
use Rattle.std.proofs.Math.Bool.{So}
use Rattle.spec.specs.Limits.{search_limit}
use Rattle.spec.specs.Machine.{Kernel, State, StepKind, placing, taking_back, closing, step, Kinds, counted, Ran}
use Rattle.spec.specs.Machine.{no_step, one_more, run, search}
use Rattle.bits.specs.Truth.{passes_or_fails, not_both}
use Rattle.bits.specs.Laws.Below.{below_or_from}

-- a finished state does not move
pub run_finished : (kernel : Kernel) (budget : ℕ) (st : State) → So st.finished → run kernel budget st ≡ no_step st
unfolding run
run_finished kernel zero st e = refl
run_finished kernel (suc budget) st e = rw e

-- a run of one step or more from an unfinished state begins with a step
pub run_step : (kernel : Kernel) (budget : ℕ) (st : State) → st.finished ≡ false
    → run kernel (suc budget) st ≡ one_more (step kernel st).kind (run kernel budget (step kernel st).state)
unfolding run
run_step kernel budget st e = rw e

pub run_none : (kernel : Kernel) (st : State) → run kernel zero st ≡ no_step st
unfolding run
run_none kernel st = refl

-- the kinds of some steps and of others, added up
abbrev pub kinds_together : Kinds → Kinds → Kinds
kinds_together first later =
    record {
      placed = first.placed + later.placed;
      taken_back = first.taken_back + later.taken_back;
      closed = first.closed + later.closed;
    }

-- one more of a kind counts for all, whether it is the first step of all or the first of the later ones
pub counted_first : (kind : StepKind) (first later : Kinds)
    → counted kind (kinds_together first later) ≡ kinds_together (counted kind first) later
counted_first placing first later = rw suc-add
counted_first taking_back first later = rw suc-add
counted_first closing first later = rw suc-add

pub counted_between : (kind : StepKind) (first later : Kinds)
    → kinds_together first (counted kind later) ≡ kinds_together (counted kind first) later
counted_between placing first later = rw (suc-add, add-suc)
counted_between taking_back first later = rw (suc-add, add-suc)
counted_between closing first later = rw (suc-add, add-suc)

-- two runs, one after the other: the state of the later, the steps of both, and of each kind those of both
abbrev pub followed_by : Ran → Ran → Ran
followed_by first later =
    record {
      state = later.state;
      steps = first.steps + later.steps;
      kinds = kinds_together first.kinds later.kinds;
    }

-- two that led to the same state, with equal counts
same_ran : {st : State} {s t a b c d e f : ℕ} → s ≡ t → a ≡ b → c ≡ d → e ≡ f
    → ◌≡◌ {A = Ran} (record { state = st; steps = s; kinds = record { placed = a; taken_back = c; closed = e } })
    (record { state = st; steps = t; kinds = record { placed = b; taken_back = d; closed = f } })
same_ran {st} steps placed back closed i =
    record {
      state = st;
      steps = steps i;
      kinds = record { placed = placed i; taken_back = back i; closed = closed i };
    }

-- no step before or after a run adds nothing
pub none_first : (st : State) (ran : Ran) → followed_by (no_step st) ran ≡ ran
none_first st ran = same_ran (omega arith) (omega arith) (omega arith) (omega arith)

pub none_later : (ran : Ran) → followed_by ran (no_step ran.state) ≡ ran
none_later ran = same_ran (omega arith) (omega arith) (omega arith) (omega arith)

-- a run of m + n is a run of m and then one of n
pub run_add : (kernel : Kernel) (m n : ℕ) (st : State)
    → run kernel (m + n) st ≡ followed_by (run kernel m st) (run kernel n (run kernel m st).state)
run_add kernel zero n st = rw (zero-add, run_none) (sym (none_first st (run kernel n st)))
run_add kernel (suc m) n st =
    ⊎_elim
    (λ e. rw (run_finished kernel (suc m + n) st e, run_finished kernel (suc m) st e, run_finished kernel n st e))
    (λ e. rw (
      suc-add,
      run_step kernel (m + n) st e,
      run_step kernel m st e,
      run_add kernel m n (step kernel st).state,
      suc-add,
      counted_first,
    ))
    (passes_or_fails st.finished)

-- no more steps than the budget
pub run_steps_le : (kernel : Kernel) (budget : ℕ) (st : State) → (run kernel budget st).steps ≤ budget
run_steps_le kernel zero st = rw run_none zero-le
run_steps_le kernel (suc budget) st =
    ⊎_elim (λ e. rw (run_finished kernel (suc budget) st e) zero-le)
    (λ e. rw (run_step kernel budget st e) (suc-le-suc (run_steps_le kernel budget (step kernel st).state)))
    (passes_or_fails st.finished)

-- as many as the budget where the state after them is not finished
pub run_steps_all : (kernel : Kernel) (budget : ℕ) (st : State) → (run kernel budget st).state.finished ≡ false
    → (run kernel budget st).steps ≡ budget
run_steps_all kernel zero st u = rw run_none
run_steps_all kernel (suc budget) st u =
    ⊎_elim (λ e. absurd (not_both e (rw (run_finished kernel (suc budget) st e) at u)))
    (λ e. rw (run_step kernel budget st e)
    (ap suc (run_steps_all kernel budget (step kernel st).state (rw (run_step kernel budget st e) at u))))
    (passes_or_fails st.finished)

-- a run goes on where a shorter one came to
pub run_goes_on : (kernel : Kernel) (m n : ℕ) (st : State) → m ≤ n
    → run kernel n st ≡ followed_by (run kernel m st) (run kernel (n - m) (run kernel m st).state)
run_goes_on kernel m n st l = rw (add-sub_of_le l) at (run_add kernel m (n - m) st)

-- once finished, a greater budget changes nothing: the steps are those that were left
pub run_settles : (kernel : Kernel) (m n : ℕ) (st : State) → m ≤ n → So (run kernel m st).state.finished
    → run kernel n st ≡ run kernel m st
run_settles kernel m n st l f =
    rw (run_goes_on kernel m n st l, run_finished kernel (n - m) (run kernel m st).state f)
    (none_later (run kernel m st))

-- the last step of a run whose state before it is not finished
pub run_last : (kernel : Kernel) (budget : ℕ) (st : State) → (run kernel budget st).state.finished ≡ false
    → (run kernel (suc budget) st).state ≡ (step kernel (run kernel budget st).state).state
run_last kernel budget st u =
    rw (← add-one budget, run_add kernel budget 1 st, run_step kernel 0 (run kernel budget st).state u, run_none)

-- what each step from an unfinished state keeps every run keeps
pub run_keeps : (kernel : Kernel) (P : State → Type 0) → ((st : State) → st.finished ≡ false → P st
    → P (step kernel st).state)
    → (budget : ℕ) (st : State) → P st → P (run kernel budget st).state
run_keeps kernel P keeps zero st p = rw run_none p
run_keeps kernel P keeps (suc budget) st p =
    ⊎_elim (λ e. rw (run_finished kernel (suc budget) st e) p)
    (λ e. rw (run_step kernel budget st e) (run_keeps kernel P keeps budget (step kernel st).state (keeps st e p)))
    (passes_or_fails st.finished)

-- ---- a search is a run, or above the limit makes no step

pub search_within : (kernel : Kernel) (budget : ℕ) (st : State) → kernel.size ≤ search_limit
    → search kernel budget st ≡ run kernel budget st
unfolding search
search_within kernel budget st l = rw (le-ltb search_limit kernel.size l)

pub search_above : (kernel : Kernel) (budget : ℕ) (st : State) → search_limit < kernel.size → search kernel budget st
    ≡ no_step st
unfolding search
search_above kernel budget st l = rw (lt-ltb search_limit kernel.size l)

pub search_add : (kernel : Kernel) (m n : ℕ) (st : State)
    → search kernel (m + n) st ≡ followed_by (search kernel m st) (search kernel n (search kernel m st).state)
search_add kernel m n st =
    ⊎_elim
    (λ l. rw (search_above kernel (m + n) st l, search_above kernel m st l, search_above kernel n st l))
    (λ l.
    rw (
      search_within kernel (m + n) st l,
      search_within kernel m st l,
      search_within kernel n
          (run kernel m st).state l,
    ) (run_add kernel m n st))
    (below_or_from search_limit kernel.size)

pub search_steps_le : (kernel : Kernel) (budget : ℕ) (st : State) → (search kernel budget st).steps ≤ budget
search_steps_le kernel budget st =
    ⊎_elim (λ l. rw (search_above kernel budget st l) zero-le) (λ l. rw (search_within kernel budget st l)
    (run_steps_le kernel budget st))
    (below_or_from search_limit kernel.size)

pub search_keeps : (kernel : Kernel) (P : State → Type 0) → ((st : State) → st.finished ≡ false → P st
    → P (step kernel st).state)
    → (budget : ℕ) (st : State) → P st → P (search kernel budget st).state
search_keeps kernel P keeps budget st p =
    ⊎_elim (λ l. rw (search_above kernel budget st l) p) (λ l. rw (search_within kernel budget st l)
    (run_keeps kernel P keeps budget st p))
    (below_or_from search_limit kernel.size)
