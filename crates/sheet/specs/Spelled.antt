-- Names as parts of a text: fields that are names. Assumes nothing.
use Rattle.std.specs.Prelude.{ℕ, ◌+◌, ◌≤◌, ◌<◌, Bool, true, false, ◌&&◌, length, drop, Option, Some, None}
use Rattle.spec.specs.Vocabulary.{all}
use Rattle.spec.specs.Text.{Bytes, name_byte}
use Rattle.spec.specs.Rules.{Name}
use Rattle.spec.specs.Refusal.{has_name_length}
use Rattle.lists.specs.Span.{span}
use Rattle.places.specs.Places.{part}
use Rattle.text.specs.Line.{separator}

-- a field is a name
abbrev pub is_name : Bytes → Bool
is_name field = has_name_length field && all name_byte field

-- where the field at a place ends
abbrev pub field_end : Bytes → ℕ → ℕ
field_end text at = at + span separator (drop at text)

-- a field that is a name or not, and where it ends
abbrev pub name_said : Bool → ℕ → Option ℕ
name_said true end = Some end
name_said false end = None

-- what the field at a place is read as
abbrev pub name_read : Bytes → ℕ → Option ℕ
name_read text at = name_said (is_name (part at (field_end text at) text)) (field_end text at)

-- a name stands in the text from one place up to another
pub record NameAt (text : Bytes) (at to : ℕ) : Type 0 where
  pub forward : at < to
  pub within : to ≤ length text
  pub named : Name (part at to text)
