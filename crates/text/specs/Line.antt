-- A field behind a comma, the end of a line, and the bytes that end a field.
use Rattle.std.specs.Prelude.{ℕ, Bool, ◌||◌, [], ◌∷◌, eqb}
use Rattle.spec.specs.Text.{Bytes, comma, line_feed}

-- a field behind the one before it
abbrev pub behind_comma : Bytes → Bytes
behind_comma field = comma ∷ field

-- the byte that ends a line
abbrev pub line_end : Bytes
line_end = line_feed ∷ []

-- a byte ends a field
abbrev pub separator : ℕ → Bool
separator b = eqb b comma || eqb b line_feed
