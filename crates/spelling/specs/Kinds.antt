-- The kinds of bytes that a sheet is asked for. Assumes nothing.
use Rattle.std.specs.Prelude.{ℕ, Bool}
use Rattle.spec.specs.Text.{allowed_byte, name_byte}
use Rattle.spelling.specs.declared.kinds.Kind.{Kind}
use Rattle.spelling.specs.declared.kinds.Kind.TheVariants as kind

-- a byte is of a kind
abbrev pub byte_of : Kind → ℕ → Bool
byte_of kind.Sheet = allowed_byte
byte_of kind.Name = name_byte
