-- The counts of the grants open to choice, exact at the cells of the open grants.
use Rattle.std.specs.Prelude.{ℕ, ◌/◌, ◌<◌, ◌≡◌, List, length, get_or}
use Rattle.std.proofs.Math.Bool.{So}
use Rattle.spec.specs.Limits.{user_limit}
use Rattle.bits.specs.Counting.{sum_below}
use Rattle.cell_rows.specs.Rows.{row_bits}
use Rattle.cell_rows.specs.CellPlaces.{cell_limit, marked}
use Rattle.fit.specs.Columns.{near_in_row}

-- how many cells of the first users are near cell n
abbrev pub near_below : List ℕ → List ℕ → ℕ → ℕ → ℕ
near_below rows left n u = sum_below u (near_in_row rows left n)

-- the counts of the grants of left
pub record Counted (rows left : List ℕ) (users : ℕ) (counts : List ℕ) : Type 0 where
  pub sized : length counts ≡ cell_limit
  pub exact : (n : ℕ) → n / row_bits < user_limit → So (marked left n)
      → get_or counts n 0 ≡ near_below rows left n users
