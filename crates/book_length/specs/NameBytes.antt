-- How many bytes names have: those at places of a sheet, and those of roles. Assumes nothing.
use Rattle.std.specs.Prelude.{ℕ, ◌-◌, ◌≤◌, ◌<◌, List, length}
use Rattle.spec.specs.Limits.{user_limit, name_limit}
use Rattle.spec.specs.Book.{role_name}
use Rattle.bits.specs.Counting.{sum_below}
use Rattle.places.specs.Places.{from_at, to_at}

-- the places of names that are short, no more than a sheet has users
pub record PlacesShort (places : List ℕ) : Type 0 where
  pub few : length places ≤ user_limit
  pub forward : (i : ℕ) → i < length places → from_at places i ≤ to_at places i
  pub short : (i : ℕ) → i < length places → to_at places i - from_at places i ≤ name_limit

-- the bytes at places
abbrev pub bytes_at : List ℕ → ℕ
bytes_at places = sum_below (length places) (λ i. to_at places i - from_at places i)

-- the bytes of the names of so many roles
abbrev pub role_name_bytes : ℕ → ℕ
role_name_bytes count = sum_below count (λ r. length (role_name r))
