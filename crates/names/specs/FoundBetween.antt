-- Looking for a name among the names from one number up to another. Assumes nothing.
use Rattle.std.specs.Prelude.{ℕ, ◌≤◌, ◌<◌, ◌≡◌, false, List, Option, Some, None}
use Rattle.std.proofs.Math.Bool.{So}
use Rattle.spec.specs.Text.{Bytes, same_name}
use Rattle.names.specs.NamesAt.{name_there}

-- an equal name has number i, which is from low up to high
pub record StandsAt (text : Bytes) (places : List ℕ) (name : Bytes) (low high i : ℕ) : Type 0 where
  pub from : low ≤ i
  pub below : i < high
  pub equal : So (same_name name (name_there text places i))

-- no number from low up to high is that of an equal name
pub record StandsNowhere (text : Bytes) (places : List ℕ) (name : Bytes) (low high : ℕ) : Type 0 where
  pub unlike : (i : ℕ) → low ≤ i → i < high → same_name name (name_there text places i) ≡ false

-- what looking from low up to high finds
abbrev pub FoundBetween : Bytes → List ℕ → Bytes → ℕ → ℕ → Option ℕ → Type 0
FoundBetween text places name low high (Some i) = StandsAt text places name low high i
FoundBetween text places name low high None = StandsNowhere text places name low high
