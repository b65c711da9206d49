-- The users whose cells a user's grants can be tied to: those whose cells of left are all in that user's row. They
-- change only with the cells of left of other users, so they stay the same while that user's are removed.
use Rattle.std.specs.Prelude.{ℕ, ◌+◌, ◌*◌, ◌/◌, ◌<◌, ◌≡◌, Bool, ◌&&◌, List}
use Rattle.std.proofs.Math.Bool.{So}
use Rattle.spec.specs.Limits.{user_limit}
use Rattle.spec.specs.Vocabulary.{every_below}
use Rattle.bits.specs.Counting.{some_below}
use Rattle.bits.specs.Truth.{implies}
use Rattle.cell_rows.specs.Rows.{row_bits, cell}
use Rattle.cell_rows.specs.CellPlaces.{marked}

-- user u has cells of left
abbrev pub has_cells : List ℕ → ℕ → Bool
has_cells left u = some_below row_bits (λ p. marked left (u * row_bits + p))

-- if the cell of user u and permission p is one of left, then user v holds p
abbrev pub held_if_left : List ℕ → List ℕ → ℕ → ℕ → ℕ → Bool
held_if_left rows left v u p = implies (marked left (u * row_bits + p)) (cell rows v p)

-- the cells of user u in left are all in the row of user v
abbrev pub in_row : List ℕ → List ℕ → ℕ → ℕ → Bool
in_row rows left v u = every_below row_bits (held_if_left rows left v u)

-- user u has cells to which a grant of user v can be tied
abbrev pub may_tie : List ℕ → List ℕ → ℕ → ℕ → Bool
may_tie rows left v u = has_cells left u && in_row rows left v u

-- the users whose cells the grants of user v can be tied to: all others of whom that holds, and v if v has cells of
-- left
pub record Insides (rows left : List ℕ) (v : ℕ) (inside : List ℕ) : Type 0 where
  pub others : (u : ℕ) → u < user_limit → (u ≡ v → ⊥) → marked inside u ≡ may_tie rows left v u
  pub own : (n : ℕ) → n / row_bits ≡ v → So (marked left n) → So (marked inside v)
