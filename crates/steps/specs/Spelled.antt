-- A name that stands in a text, spelled in whatever case. Assumes nothing.
use Rattle.std.specs.Prelude.{ℕ, ◌≡◌, Option, Some, None}
use Rattle.spec.specs.Text.{Bytes, lowered}
use Rattle.steps.specs.Stands.{Stands}
use Rattle.steps.specs.Steps.{Misses}

-- a name stands in the text at a place, spelled in some case, and it goes on at the next
pub record SpelledAt (text : Bytes) (at : ℕ) (name : Bytes) (next : ℕ) : Type 0 where
  pub spelled : Bytes
  pub same : lowered spelled ≡ lowered name
  pub reads : Stands text at spelled next

-- no spelling of the name stands there
abbrev pub NotSpelled : Bytes → ℕ → Bytes → Type 0
NotSpelled text at name = (spelled : Bytes) → lowered spelled ≡ lowered name → Misses text at spelled

-- a step that goes past a name
abbrev pub ExpectsName : Bytes → ℕ → Bytes → Option ℕ → Type 0
ExpectsName text at name (Some next) = SpelledAt text at name next
ExpectsName text at name None = NotSpelled text at name
