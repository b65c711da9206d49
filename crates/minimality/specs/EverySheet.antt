-- Every even sheet has a smallest role count. The machine ends on a kernel of any size, also on one that no search
-- takes up, and the roles of its last state are the fewest.
use Rattle.std.specs.Prelude.{ℕ, refl}
use Rattle.std.proofs.Common.{le_refl}
use Rattle.std.proofs.Math.Bool.{So}
use Rattle.spec.specs.Sheet.{Sheet}
use Rattle.spec.specs.Cover.{first_best}
use Rattle.spec.specs.Machine.{State, run}
use Rattle.spec.specs.Roles.{roles_of, kernel_of, start_of, role_count}
use Rattle.spec.specs.Sequence.{enough}
use Rattle.spec.specs.OneChange.{SmallestCount}
use Rattle.search.specs.Laws.Progress.{enough_ends}
use Rattle.minimality.specs.GrantClassing.{Even}
use Rattle.minimality.specs.StateBound.{Searching, searching_start, searching_run, state_multiplies}
use Rattle.minimality.specs.StateBound.{finished_bounds}

module _ (sheet : Sheet) where
  -- steps enough
  abbrev steps : ℕ
  steps = enough (kernel_of sheet).size

  -- the machine's state after them
  last_state : State
  last_state = (run (kernel_of sheet) steps (start_of sheet)).state

  last_searching : Searching sheet last_state
  unfolding last_state
  last_searching = searching_run steps (searching_start sheet)

  last_finished : So last_state.finished
  unfolding last_state start_of
  last_finished = enough_ends (kernel_of sheet) (first_best sheet) steps (le_refl steps)

  pub even_has_smallest : Even sheet → (n : ℕ) × SmallestCount n sheet
  unfolding role_count
  even_has_smallest even = (
    role_count sheet last_state,
    record {
      roles = roles_of sheet last_state.best;
      product = state_multiplies sheet last_state last_searching;
      counted = refl;
      none_fewer = λ roles multiplies.
          finished_bounds sheet last_state last_searching even roles multiplies last_finished;
    },
  )
