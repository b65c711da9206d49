-- Where the names of the lines from a place on stand: each line starts with its name. Assumes nothing.
use Rattle.std.specs.Prelude.{ℕ, ◌<◌, ◌≡◌, List, map, length, drop}
use Rattle.spec.specs.Text.{Bytes, lines_of}
use Rattle.spec.specs.Sheet.{first_field}
use Rattle.places.specs.Places.{from_at, PlacedBelow}

-- the names of the first n of those lines stand at these places, and the lines start there
pub record UserPlacesBelow (n : ℕ) (text : Bytes) (at : ℕ) (places : List ℕ) : Type 0 where
  pub names : PlacedBelow n text places (map first_field (lines_of (drop at text)))
  pub starts : (i : ℕ) → i < n → lines_of (drop (from_at places i) text) ≡ drop i (lines_of (drop at text))

abbrev pub UserPlaces : Bytes → ℕ → List ℕ → Type 0
UserPlaces text at places = UserPlacesBelow (length (lines_of (drop at text))) text at places
