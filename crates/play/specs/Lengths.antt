-- The length that a call asks for is no more than there are bytes. Assumes nothing.
use Rattle.std.specs.Prelude.{ℕ, ◌≤◌, Option, Some, None}
use Rattle.play.specs.Space.{space_limit}

abbrev pub LengthWithin : Option ℕ → Type 0
LengthWithin (Some n) = n ≤ space_limit
LengthWithin None = Unit {0}
