-- The line of a user as it stands in a text: a name, a cell for each permission, and the line feed. Assumes nothing.
use Rattle.std.specs.Prelude.{ℕ, ◌≤◌, ◌<◌, ◌≡◌, Bool, false, List, ◌∷◌, ◌++◌, length, drop, Option, Some, None}
use Rattle.spec.specs.Vocabulary.{list_of}
use Rattle.spec.specs.Text.{Bytes, Line, line_text}
use Rattle.spec.specs.Sheet.{cell_text}
use Rattle.spec.specs.Rules.{Name}
use Rattle.cell_rows.specs.Rows.{row_bits, cell}
use Rattle.cells_read.specs.RowGrown.{Grown}
use Rattle.places.specs.Places.{part}
use Rattle.steps.specs.Stands.{Stands}
use Rattle.sheet.specs.Spelled.{NameAt}
use Rattle.sheet.specs.declared.user_line.UserLine.{UserLine}

-- a user's name stands in the text, and no cell past the permissions is set
pub record UserAt (text : Bytes) (width from to : ℕ) (ones : ℕ → Bool) : Type 0 where
  pub name : NameAt text from to
  pub narrow : (p : ℕ) → width ≤ p → p < row_bits → ones p ≡ false

-- the line of a user whose name stands there and who has these cells
abbrev pub line_of : Bytes → ℕ → ℕ → ℕ → (ℕ → Bool) → Line
line_of text width from to ones = part from to text ∷ list_of width (λ i. cell_text (ones i))

-- the line of this name and these cells stands at a place of the text, with this behind it
pub record Spells (text : Bytes) (at width : ℕ) (name : Bytes) (ones : ℕ → Bool) (rest : Bytes) : Type 0 where
  pub within : at ≤ length text
  pub named : Name name
  pub spelled : drop at text ≡ line_text (name ∷ list_of width (λ i. cell_text (ones i))) ++ rest

-- the line that was read stands in the text, its cells in a row of words, and behind it what is behind any such line
-- there
pub record LineStands (text : Bytes) (at width row : ℕ) (words after : List ℕ) (line : UserLine) : Type 0 where
  pub name : NameAt text at line.to
  pub grown : Grown words after row width
  pub forward : at < line.next
  pub stands : Stands text at (line_text (line_of text width at line.to (cell after row))) line.next
  pub behind : (name : Bytes) (ones : ℕ → Bool) (rest : Bytes) → Spells text at width name ones rest
      → drop line.next text ≡ rest

-- what reading the line of a user gives: the line that stands there, or that none does
abbrev pub UserLineReads : Bytes → ℕ → ℕ → ℕ → List ℕ → List ℕ → Option UserLine → Type 0
UserLineReads text at width row words after (Some line) = LineStands text at width row words after line
UserLineReads text at width row words after None =
    (name : Bytes) (ones : ℕ → Bool) (rest : Bytes) → Spells text at width name ones rest → ⊥
