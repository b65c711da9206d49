-- Reading a name up to the byte that ends it, where the name is to be one of a list, in whatever case. Assumes nothing.
use Rattle.std.specs.Prelude.{ℕ, ◌<◌, ◌≡◌, List, [], ◌∷◌, ◌++◌, eqb, length, get_or, Option, Some, None}
use Rattle.spec.specs.Text.{Bytes, lowered}
use Rattle.lists.specs.CutLaws.{Free}
use Rattle.steps.specs.Stands.{Stands}
use Rattle.steps.specs.Steps.{Misses}

-- a name and the byte that ends it
abbrev pub name_text : Bytes → ℕ → Bytes
name_text name end = name ++ end ∷ []

-- a name of the list was read, in whatever case it is spelled
pub record NameAt (names : List Bytes) (text : Bytes) (at end i next : ℕ) : Type 0 where
  pub within : i < length names
  pub spelled : Bytes
  pub same : lowered spelled ≡ lowered (get_or names i [])
  pub reads : Stands text at (name_text spelled end) next

-- no name without that byte stands at a place, in whatever case
abbrev pub NoName : List Bytes → Bytes → ℕ → ℕ → Type 0
NoName names text at end =
    (i : ℕ) → i < length names → (spelled : Bytes) → lowered spelled ≡ lowered (get_or names i [])
    → Free (eqb end) spelled → Misses text at (name_text spelled end)

-- a step over a name
abbrev pub NameReads : List Bytes → Bytes → ℕ → ℕ → Option (ℕ × ℕ) → Type 0
NameReads names text at end (Some (i, next)) = NameAt names text at end i next
NameReads names text at end None = NoName names text at end
