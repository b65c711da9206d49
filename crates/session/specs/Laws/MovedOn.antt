-- A session whose position a search moved on holds what it held: the table's kernel is searched as the sheet's is, so
-- the position stands where the machine comes to, which is a state that searches come to. Above the limit neither the
-- machine nor the position moves.
use Rattle.std.specs.Prelude.{ℕ, ◌≤◌, ◌<◌, ◌≡◌}
use Rattle.std.proofs.Common.{sym, ap, ◌∙◌, ⊎_elim, le-leb}
use Rattle.spec.specs.Limits.{search_limit}
use Rattle.spec.specs.Sheet.{sheet_of}
use Rattle.spec.specs.Machine.{State, best_count, search, no_step}
use Rattle.spec.specs.Machine as machine
use Rattle.spec.specs.Roles.{kernel_of}
use Rattle.bits.specs.Laws.Below.{below_or_from}
use Rattle.moves.specs.StepKinds.{kinds_said}
use Rattle.search.specs.View.{view, view_ran, PositionStands}
use Rattle.search.specs.Laws.SameFit.{search_same}
use Rattle.search.specs.Laws.Runs.{search_above}
use Rattle.search.specs.declared.machine.Position.{Position}
use Rattle.search.specs.declared.machine.Ran.{Ran}
use Rattle.minimality.specs.StateBound.{searching_on}
use Rattle.session.specs.CodeSession.{text_in, size_in, state_in, Holds}
use Rattle.session.specs.Laws.Counted.{moved_to, RanIn}
use Rattle.preparing.specs.Laws.TableKernel.{table_kernel, same_kernel}
use Rattle.session.specs.declared.Session.{Session as CodeSession}

-- the state is that of the position where the kernel can be searched
pub state_within : (s : CodeSession) → size_in s ≤ search_limit → state_in s ≡ view s.position (size_in s)
state_within s l = rw (le-leb (size_in s) search_limit l)

-- where the machine comes to within the budget
abbrev ran_on : CodeSession → ℕ → machine.Ran
ran_on s budget = search (kernel_of (sheet_of (text_in s))) budget (state_in s)

module _ {s : CodeSession} (h : Holds s) (budget : ℕ) (ran : Ran)
    (searched : view_ran ran (size_in s) ≡ search (table_kernel s.prepared) budget (view s.position (size_in s)))
  where
    -- once the position stands for the state that the machine came to
    on_position : (size_in s ≤ search_limit → PositionStands (size_in s) ran.position)
        → state_in (moved_to s ran.position) ≡ (ran_on s budget).state → ran.steps ≡ (ran_on s budget).steps
        → kinds_said ran.kinds ≡ (ran_on s budget).kinds
        → ran.position.cursor.count ≡ best_count (state_in (moved_to s ran.position))
        → ran.position.cursor.finished ≡ (state_in (moved_to s ran.position)).finished → RanIn s budget ran
    on_position stands state steps kinds counted finished =
        record {
          state = state;
          steps = steps;
          kinds = kinds;
          holds = record {
            accepts = h.accepts;
            sheet = record { whole = h.sheet.whole; laid = h.sheet.laid; cells = h.sheet.cells };
            prepared = h.prepared;
            stands = stands;
            searching = rw state (searching_on budget h.searching);
            counted = counted;
            finished = finished;
          };
        }

    -- the table's kernel is searched as the sheet's is
    as_the_machine : size_in s ≤ search_limit → view_ran ran (size_in s) ≡ ran_on s budget
    as_the_machine l =
        searched
        ∙ search_same (table_kernel s.prepared) (kernel_of (sheet_of (text_in s))) (same_kernel h.prepared l)
        budget
        (view s.position (size_in s))
        ∙ ap (search (kernel_of (sheet_of (text_in s))) budget) (sym (state_within s l))

    ran_within : size_in s ≤ search_limit → PositionStands (size_in s) ran.position → RanIn s budget ran
    ran_within l stands =
        let viewed = state_within (moved_to s ran.position) l in
        on_position (λ k. stands) (viewed ∙ ap (λ (r : machine.Ran). r.state) (as_the_machine l))
        (ap (λ (r : machine.Ran). r.steps) (as_the_machine l)) (ap (λ (r : machine.Ran). r.kinds) (as_the_machine l))
        (stands.best_counted ∙ ap best_count (sym viewed))
        (ap (λ (st : State). st.finished) (sym viewed))

    -- above the limit the machine makes no step
    no_step_above : search_limit < size_in s → ran_on s budget ≡ no_step (state_in s)
    unfolding kernel_of
    no_step_above l = search_above (kernel_of (sheet_of (text_in s))) budget (state_in s)
        (rw h.prepared.kernel_size at l)

    ran_above : search_limit < size_in s → (size_in s ≤ search_limit → PositionStands (size_in s) ran.position)
        → ran.position ≡ s.position
        → RanIn s budget ran
    ran_above l stands kept =
        let same : state_in (moved_to s ran.position) ≡ state_in s = ap
        (λ (at : Position). state_in (moved_to s at)) kept in
        let none = search_above (table_kernel s.prepared) budget (view s.position (size_in s)) l in
        on_position stands (same ∙ sym (ap (λ (r : machine.Ran). r.state) (no_step_above l)))
        (ap (λ (r : machine.Ran). r.steps) (searched ∙ none)
        ∙ sym (ap (λ (r : machine.Ran). r.steps) (no_step_above l)))
        (ap (λ (r : machine.Ran). r.kinds) (searched ∙ none)
        ∙ sym (ap (λ (r : machine.Ran). r.kinds) (no_step_above l)))
        (ap (λ (at : Position). at.cursor.count) kept ∙ h.counted ∙ ap best_count (sym same))
        (ap (λ (at : Position). at.cursor.finished) kept ∙ h.finished ∙ ap (λ (st : State). st.finished) (sym same))

    pub ran_in : (size_in s ≤ search_limit → PositionStands (size_in s) ran.position)
        → (search_limit < size_in s → ran.position ≡ s.position)
        → RanIn s budget ran
    ran_in stands kept =
        ⊎_elim (λ l. ran_above l stands (kept l)) (λ l. ran_within l (stands l))
        (below_or_from search_limit (size_in s))
