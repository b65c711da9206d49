-- What a session may say of a sheet in any state of its machine: the bound is a bound for every role set, and where
-- the state is not `open` no role set has fewer roles. A `witnessed` state has as many roles as the witness has
-- grants; a finished machine has reached that count or has shown its best placement to be the smallest; and the bound
-- of an open state is the witness's count.
use Rattle.std.specs.Prelude.{ℕ, ◌+◌, ◌≤◌, ◌≡◌, ◌≢◌, Bool}
use Rattle.std.proofs.Common.{arith, ◌∙◌, ⊎_elim}
use Rattle.std.proofs.Math.Path.{refl}
use Rattle.std.proofs.Math.Bool.{true, false, So, cond}
use borrow.Author.Tests.{eqb-true}
use Rattle.std.proofs.Math.Dec.{eqb}
use Rattle.std.proofs.Math.ListN.{length}
use Rattle.spec.specs.Sheet.{Sheet, permission_count}
use Rattle.spec.specs.Reduction.{singles}
use Rattle.spec.specs.Witness.{witness}
use Rattle.spec.specs.Cover.{used, first_best}
use Rattle.spec.specs.Machine.{State, best_count, reaches_witness, step, run, search}
use Rattle.spec.specs.RoleSet.{RoleSet, Multiplies}
use Rattle.spec.specs.Roles.{roles_of, kernel_of, start_of, witnessed, searched, unsettled, bound_of, role_count}
use Rattle.spec.specs.Roles.{standing, bound}
use Rattle.search.specs.Laws.SoundState.{SoundState, sound_start, sound_step}
use Rattle.search.specs.Laws.Complete.{Passed, passed_start, passed_step, finished_is_smallest}
use Rattle.search.specs.Laws.Best.{step_best_le}
use Rattle.search.specs.Laws.Runs.{run_keeps, search_keeps}
use Rattle.minimality.specs.GrantClassing.{Even}
use Rattle.minimality.specs.SheetRoles.{first_best_whole, roles_multiply, roles_counted}
use Rattle.minimality.specs.SheetRoles.{witness_bounds_role_sets, smallest_bounds_role_sets}
use Rattle.minimality.specs.SheetRoles.{roles_le_permissions}

-- a state that the machine may come to on the sheet
pub record Searching (sheet : Sheet) (st : State) : Type 0 where
  pub sound : SoundState (kernel_of sheet) st
  pub passed : Passed (kernel_of sheet) st
  pub no_worse : best_count st ≤ used (first_best sheet)

pub searching_start : (sheet : Sheet) → Searching sheet (start_of sheet)
unfolding start_of
searching_start sheet =
    record {
      sound = sound_start (kernel_of sheet) (first_best sheet) (first_best_whole sheet);
      passed = passed_start (kernel_of sheet) (first_best sheet);
      no_worse = omega arith;
    }

searching_step : {sheet : Sheet} {st : State} → Searching sheet st
    → Searching sheet (step (kernel_of sheet) st).state
searching_step {sheet} {st} s =
    record {
      sound = sound_step (kernel_of sheet) st s.sound;
      passed = passed_step (kernel_of sheet) st s.sound s.passed;
      no_worse = omega (arith, step_best_le (kernel_of sheet) st, s.no_worse);
    }

pub searching_on : {sheet : Sheet} {st : State} (budget : ℕ) → Searching sheet st
    → Searching sheet (search (kernel_of sheet) budget st).state
searching_on {sheet} {st} budget s =
    search_keeps (kernel_of sheet) (Searching sheet) (λ later e. searching_step) budget st s

-- also of steps that no search makes: those of a kernel above the limit of searches
pub searching_run : {sheet : Sheet} {st : State} (budget : ℕ) → Searching sheet st
    → Searching sheet (run (kernel_of sheet) budget st).state
searching_run {sheet} {st} budget s =
    run_keeps (kernel_of sheet) (Searching sheet) (λ later e. searching_step) budget st s

module _ (sheet : Sheet) (st : State) (s : Searching sheet st) where
  -- the roles multiply to the sheet
  pub state_multiplies : Multiplies (roles_of sheet st.best) sheet
  state_multiplies = roles_multiply sheet st.best s.sound.best_whole

  pub state_counted : role_count sheet st ≡ best_count st + length (singles sheet)
  unfolding role_count
  state_counted = roles_counted sheet st.best s.sound.best_whole

  -- never more than permissions
  pub state_le_permissions : Even sheet → role_count sheet st ≤ permission_count sheet
  unfolding role_count
  state_le_permissions even = roles_le_permissions st.best even s.sound.best_whole s.no_worse

  -- never fewer than the witness has grants
  pub witness_le_state : Even sheet → length (witness sheet) ≤ role_count sheet st
  unfolding role_count
  witness_le_state even = witness_bounds_role_sets even state_multiplies

  reached_witness : So (reaches_witness (kernel_of sheet) st.best) → role_count sheet st ≡ length (witness sheet)
  unfolding kernel_of
  reached_witness e = state_counted ∙ eqb-true (best_count st + length (singles sheet)) (length (witness sheet)) e

  module _ (even : Even sheet) (roles : RoleSet) (multiplies : Multiplies roles sheet) where
    -- as many roles as the witness has grants are the fewest
    witnessed_bounds : So (eqb (role_count sheet st) (length (witness sheet))) → role_count sheet st ≤ roles.count
    witnessed_bounds e =
        omega (
          arith,
          eqb-true (role_count sheet st) (length (witness sheet)) e,
          witness_bounds_role_sets even
              multiplies,
        )

    -- a finished machine's roles are the fewest
    pub finished_bounds : So st.finished → role_count sheet st ≤ roles.count
    finished_bounds f =
        ⊎_elim (λ e. omega (arith, reached_witness e, witness_bounds_role_sets even multiplies))
        (λ h. omega (arith, state_counted, smallest_bounds_role_sets st.best even h multiplies))
        (finished_is_smallest (kernel_of sheet) st s.passed f)

    -- where the state is not `open`, no role set has fewer roles
    pub settled_is_smallest : standing sheet st ≢ unsettled → role_count sheet st ≤ roles.count
    unfolding standing
    settled_is_smallest settled = by_cases (eqb (role_count sheet st) (length (witness sheet))) refl st.finished
        refl settled
      where
        by_cases : (met : Bool) → eqb (role_count sheet st) (length (witness sheet)) ≡ met → (finished : Bool)
            → st.finished ≡ finished
            → cond met witnessed (cond finished searched unsettled) ≢ unsettled → role_count sheet st ≤ roles.count
        by_cases true e finished f h = witnessed_bounds e
        by_cases false e true f h = finished_bounds f
        by_cases false e false f h = absurd (h refl)

    -- the bound is a bound
    pub bound_bounds : bound sheet st ≤ roles.count
    unfolding bound
    bound_bounds = by_cases (eqb (role_count sheet st) (length (witness sheet))) refl st.finished refl
      where
        by_cases : (met : Bool) → eqb (role_count sheet st) (length (witness sheet)) ≡ met → (finished : Bool)
            → st.finished ≡ finished
            → bound_of (cond met witnessed (cond finished searched unsettled)) (role_count sheet st)
            (length (witness sheet)) ≤ roles.count
        by_cases true e finished f = witnessed_bounds e
        by_cases false e true f = finished_bounds f
        by_cases false e false f = witness_bounds_role_sets even multiplies
