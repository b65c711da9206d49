-- Once enough budget was given, the machine is finished, and a finished machine's state is `witnessed` or `searched`.
use Rattle.std.specs.Prelude.{ℕ, ◌≡◌, refl, Bool, true, false, ◌≢◌, eqb, length}
use Rattle.std.proofs.Common.{arith}
use Rattle.std.proofs.Math.Bool.{So}
use Rattle.spec.specs.Limits.{search_limit}
use Rattle.spec.specs.Text.{Bytes}
use Rattle.spec.specs.Sheet.{sheet_of}
use Rattle.spec.specs.Reduction.{kernel_size}
use Rattle.spec.specs.Witness.{witness}
use Rattle.spec.specs.Cover.{first_best}
use Rattle.spec.specs.Roles.{unsettled, standing_of, kernel_of, start_of, role_count, standing}
use Rattle.spec.specs.Calls.{searched_on}
use Rattle.spec.specs.Sequence.{searched_in_all, reached}
use Rattle.spec.specs.Demands.{BudgetsSuffice}
use Rattle.search.specs.Laws.Progress.{enough_ends_search}

-- enough budget finishes the machine
pub ended_finishes : (text : Bytes) (given : ℕ) → BudgetsSuffice (kernel_size (sheet_of text)) given
    → So (reached text given).finished
unfolding reached searched_in_all searched_on start_of kernel_of search_limit
ended_finishes text given ended =
    enough_ends_search (kernel_of (sheet_of text)) (first_best (sheet_of text)) given ended.searchable
    ended.sufficient

-- a finished machine is not open
finished_not_open : (is_witness : Bool) (roles w : ℕ) → eqb roles w ≡ is_witness → standing_of roles w true ≢ unsettled
finished_not_open true roles w e says = let z : ◌≡◌ {A = ℕ} 0 1 = (let here = rw e at says in cc) in omega arith
finished_not_open false roles w e says = let z : ◌≡◌ {A = ℕ} 0 1 = (let here = rw e at says in cc) in omega arith

pub ended_settles : (text : Bytes) (given : ℕ) → BudgetsSuffice (kernel_size (sheet_of text)) given
    → standing (sheet_of text) (reached text given) ≢ unsettled
unfolding standing
ended_settles text given ended =
    let roles : ℕ = role_count (sheet_of text) (reached text given) in
    let w : ℕ = length (witness (sheet_of text)) in
    rw (ended_finishes text given ended) (finished_not_open (eqb roles w) roles w refl)
