-- Steps over a text: what stands there from a place on, and where to go on. Assumes nothing.
use Rattle.std.specs.Prelude.{ℕ, ◌≡◌, ◌++◌, drop, Option, Some, None}
use Rattle.spec.specs.Text.{Bytes}
use Rattle.steps.specs.Stands.{Stands}

-- these bytes do not stand in the text at a place
pub record Misses (text : Bytes) (at : ℕ) (bytes : Bytes) : Type 0 where
  pub misses : (rest : Bytes) → drop at text ≡ bytes ++ rest → ⊥

-- a step that goes past known bytes
abbrev pub Expects : Bytes → ℕ → Bytes → Option ℕ → Type 0
Expects text at bytes (Some next) = Stands text at bytes next
Expects text at bytes None = Misses text at bytes
