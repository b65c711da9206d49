-- The names that stand at places of a text, and looking for one. Assumes nothing.
use Rattle.std.specs.Prelude.{ℕ, ◌≤◌, ◌<◌, List, [], length, get_or, ◌≡◌, false}
use Rattle.std.specs.Prelude.{Option, Some, None}
use Rattle.std.proofs.Math.Option.{none, some}
use Rattle.std.proofs.Math.Option as math
use Rattle.spec.specs.Vocabulary.{lowest_below, list_of}
use Rattle.spec.specs.Limits.{user_limit}
use Rattle.spec.specs.Text.{Bytes, same_name}
use Rattle.places.specs.Places.{from_at, to_at, part}

-- there are no more places than there can be users, and each is that of a part of the text
pub record Inside (text : Bytes) (places : List ℕ) : Type 0 where
  pub few : length places ≤ user_limit
  pub forward : (i : ℕ) → i < length places → from_at places i ≤ to_at places i
  pub within : (i : ℕ) → i < length places → to_at places i ≤ length text

-- what a place is asked for before the part there is lent
abbrev pub PartThere : Bytes → List ℕ → ℕ → Type 0
PartThere text places i = (i < length places) × (from_at places i ≤ to_at places i) × (to_at places i ≤ length text)

-- what stands at one of the places
abbrev pub name_there : Bytes → List ℕ → ℕ → Bytes
name_there text places i = part (from_at places i) (to_at places i) text

-- what stands at the first `count` places
abbrev pub names_at : Bytes → List ℕ → ℕ → List Bytes
names_at text places count = list_of count (name_there text places)

-- what stands at all places
abbrev pub all_names : Bytes → List ℕ → List Bytes
all_names text places = names_at text places (length places)

-- no two of the first n names are equal
abbrev pub Apart : Bytes → List ℕ → ℕ → Type 0
Apart text places n =
    (i j : ℕ) → i < j → j < n → same_name (name_there text places i) (name_there text places j) ≡ false

-- the lowest number of a name in a list of names that is equal to this one
abbrev pub name_number : List Bytes → Bytes → math.Option ℕ
name_number names name = lowest_below (length names) (λ i. same_name name (get_or names i []))

-- the number of a name, where it has one, as what looking for it finds
abbrev pub found : math.Option ℕ → Option ℕ
found none = None
found (some i) = Some i
