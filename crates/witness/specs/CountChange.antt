-- Counts that change at some cells, while all others stay. When grants of a user are closed to choice, the count of
-- each open grant is less by how many of them fit it.
use Rattle.std.specs.Prelude.{ℕ, ◌+◌, ◌-◌, ◌*◌, ◌/◌, ◌%◌, ◌≤◌, ◌≡◌, Bool, ◌&&◌, cond, List, eqb, ltb, length, get_or}
use Rattle.std.proofs.Math.Bool.{So}
use Rattle.bits.specs.Counting.{count_below}
use Rattle.bits.specs.Bit.{bit, word_bits}
use Rattle.cell_rows.specs.Rows.{row_bits, cell}
use Rattle.cell_rows.specs.CellPlaces.{grant_of, marked, fit_in}

-- cell n is at a position of some in word m
abbrev pub at_position : ℕ → ℕ → ℕ → Bool
at_position m some n = eqb (n / word_bits) m && bit some (n % word_bits)

-- the counts at the cells that pass are changed, each by the rule for its cell, and all others stay
pub record ChangedAt (at : ℕ → Bool) (to : ℕ → ℕ → ℕ) (before after : List ℕ) : Type 0 where
  pub sized : length after ≡ length before
  pub says : (n : ℕ) → get_or after n 0 ≡ cond (at n) (to n (get_or before n 0)) (get_or before n 0)

-- a number is taken off each
abbrev pub TakenOff : (ℕ → Bool) → (ℕ → ℕ) → List ℕ → List ℕ → Type 0
TakenOff at by before after = ChangedAt at (λ n count. count - by n) before after

-- these counts are not less than what is taken off
abbrev pub Enough : (ℕ → Bool) → (ℕ → ℕ) → List ℕ → Type 0
Enough at by counts = (n : ℕ) → So (at n) → by n ≤ get_or counts n 0

-- how many grants of user u, with permissions of these words of a row, fit that at cell n
abbrev pub fit_count : List ℕ → ℕ → List ℕ → ℕ → ℕ
fit_count rows u words n =
    count_below row_bits (λ p. marked words p && fit_in rows (grant_of n) (grant_of (u * row_bits + p)))

-- how many permissions of these words of a row user v holds
abbrev pub shared : List ℕ → List ℕ → ℕ → ℕ
shared rows words v = count_below row_bits (λ p. marked words p && cell rows v p)

-- cell n is in the row of user v, at a position of these words of a row
abbrev pub in_row : ℕ → List ℕ → ℕ → Bool
in_row v words n = eqb (n / row_bits) v && marked words (n % row_bits)

-- cell n is one of left, of user v
abbrev pub of_user : List ℕ → ℕ → ℕ → Bool
of_user left v n = eqb (n / row_bits) v && marked left n

-- the same of the users at the positions of some in word j of a column
abbrev pub of_users : List ℕ → ℕ → ℕ → ℕ → Bool
of_users left j some n = at_position j some (n / row_bits) && marked left n

-- the same of the users below an end
abbrev pub of_users_below : List ℕ → ℕ → ℕ → Bool
of_users_below left end n = ltb (n / row_bits) end && marked left n
