-- Where the parts of a text stand: a place is one number, which says the first byte of a part and the byte after its
-- last. Assumes nothing.
use Rattle.std.specs.Prelude.{ℕ, ◌+◌, ◌*◌, ◌-◌, ◌/◌, ◌%◌, ◌≤◌, ◌<◌, ◌≡◌, List, [], length, get_or, take, drop}
use Rattle.std.specs.Prelude.{replicate}
use Rattle.spec.specs.Limits.{user_limit}
use Rattle.spec.specs.Text.{Bytes}
use Rattle.places.specs.declared.places.Places.{Places}

-- more than the number of any byte of a text
abbrev pub place_base : ℕ
place_base = 4_294_967_296

-- the place of the bytes from one up to another
abbrev pub place_of : ℕ → ℕ → ℕ
place_of from to = from * place_base + to

-- the first byte of a place
abbrev pub from_of : ℕ → ℕ
from_of place = place / place_base

-- the byte after the last of a place
abbrev pub to_of : ℕ → ℕ
to_of place = place % place_base

-- the same of place i of a list of places
abbrev pub from_at : List ℕ → ℕ → ℕ
from_at places i = from_of (get_or places i 0)

abbrev pub to_at : List ℕ → ℕ → ℕ
to_at places i = to_of (get_or places i 0)

-- the bytes of a text from one place up to another
abbrev pub part : ℕ → ℕ → Bytes → Bytes
part from to text = take (to - from) (drop from text)

-- these bytes stand in the text from one place up to another
pub record Part (text : Bytes) (from to : ℕ) (bytes : Bytes) : Type 0 where
  pub forward : from ≤ to
  pub within : to ≤ length text
  pub reads : part from to text ≡ bytes

-- the first n names of a list stand in the text at these places
pub record PlacedBelow (n : ℕ) (text : Bytes) (places : List ℕ) (names : List Bytes) : Type 0 where
  pub each : (i : ℕ) → i < n → Part text (from_at places i) (to_at places i) (get_or names i [])

-- these are the places of the names of a list in the text, one for each name
pub record NamesPlaced (text : Bytes) (places : List ℕ) (names : List Bytes) : Type 0 where
  pub total : length places ≡ length names
  pub placed : PlacedBelow (length names) text places names

-- past the first n no place is noted: there the list has 0
abbrev pub BlankPast : ℕ → List ℕ → Type 0
BlankPast n places = (i : ℕ) → n ≤ i → get_or places i 0 ≡ 0

-- no place is noted
abbrev pub no_places : Places
no_places = record { at = replicate user_limit 0 }
