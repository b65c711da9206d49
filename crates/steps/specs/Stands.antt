-- Bytes that stand in a text. Assumes nothing.
use Rattle.std.specs.Prelude.{ℕ, ◌≤◌, ◌≡◌, ◌++◌, length, drop}
use Rattle.spec.specs.Text.{Bytes}

-- these bytes stand in the text at a place, and it goes on at the next
pub record Stands (text : Bytes) (at : ℕ) (bytes : Bytes) (next : ℕ) : Type 0 where
  pub forward : at ≤ next
  pub within : next ≤ length text
  pub reads : drop at text ≡ bytes ++ drop next text
