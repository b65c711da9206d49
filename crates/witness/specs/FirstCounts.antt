-- The first counts of the grants open to choice, gathered from how many grants of each user have permissions that the
-- grant's own user holds.
use Rattle.std.specs.Prelude.{ℕ, ◌+◌, ◌*◌, ◌≤◌, ◌<◌, ◌≡◌, ◌&&◌, cond, List, length, get_or}
use Rattle.spec.specs.Limits.{user_limit}
use Rattle.bits.specs.Counting.{count_below, sum_below}
use Rattle.cell_rows.specs.Rows.{row_bits, cell}
use Rattle.cell_rows.specs.CellPlaces.{marked}

-- how many grants of user u have permissions that user v holds
abbrev pub share : List ℕ → List ℕ → ℕ → ℕ → ℕ
share rows left v u = count_below row_bits (λ p. cell left u p && cell rows v p)

-- those of the first users, and 0 for all others
pub record SharesOf (rows left : List ℕ) (v users : ℕ) (shares : List ℕ) : Type 0 where
  pub sized : length shares ≡ user_limit
  pub each : (u : ℕ) → u < users → get_or shares u 0 ≡ share rows left v u
  pub past : (u : ℕ) → users ≤ u → get_or shares u 0 ≡ 0

-- none is more than a row has permissions
abbrev pub Bounded : List ℕ → Type 0
Bounded shares = (u : ℕ) → get_or shares u 0 ≤ row_bits

-- the sum of the shares of the first users who hold a permission, as the columns say
abbrev pub gathered_below : List ℕ → List ℕ → ℕ → ℕ → ℕ
gathered_below columns shares p end =
    sum_below end (λ u. cond (marked columns (p * user_limit + u)) (get_or shares u 0) 0)

abbrev pub gathered : List ℕ → List ℕ → ℕ → ℕ
gathered columns shares p = gathered_below columns shares p user_limit
