-- The lines of users one after the other, their names at noted places and their cells in rows of words. Assumes
-- nothing.
use Rattle.std.specs.Prelude.{ℕ, ◌*◌, ◌≤◌, ◌<◌, ◌≡◌, Bool, length, drop, Option, Some, None}
use mathlib.Core.List.{List, ◌++◌, Memᴰ}
use Rattle.spec.specs.Vocabulary.{list_of}
use Rattle.spec.specs.Limits.{user_limit}
use Rattle.spec.specs.Text.{Bytes, Line, text_of}
use Rattle.spec.specs.Rules.{Name, user_lines}
use Rattle.bits.specs.Counting.{count_below, sum_below}
use Rattle.cell_rows.specs.Rows.{row_words, cell}
use Rattle.places.specs.Places.{from_at, to_at, BlankPast}
use Rattle.steps.specs.Stands.{Stands}
use Rattle.sheet.specs.UserLine.{UserAt, line_of}
use Rattle.sheet.specs.declared.user_lines.UserLines.{UserLines}

-- there is room for as many users as there can be, and no place is noted and no cell is set yet
pub record Room (places words : List ℕ) : Type 0 where
  pub places_room : length places ≡ user_limit
  pub words_room : length words ≡ user_limit * row_words
  pub unnoted : BlankPast 0 places
  pub blank : BlankPast 0 words

-- line u, by where its name stands and by its row
abbrev pub line_at : Bytes → ℕ → List ℕ → List ℕ → ℕ → Line
line_at text width places words u = line_of text width (from_at places u) (to_at places u) (cell words u)

-- the first n lines
abbrev pub lines_at : Bytes → ℕ → List ℕ → List ℕ → ℕ → List Line
lines_at text width places words n = list_of n (line_at text width places words)

-- how many cells of the first n lines are `1`
abbrev pub ones_at : ℕ → List ℕ → ℕ → ℕ
ones_at width words n = sum_below n (λ u. count_below width (cell words u))

-- the first n lines stand in the text from `start` up to `at`, and their names and rows are noted
pub record LinesNoted (text : Bytes) (start width : ℕ) (places words : List ℕ) (n ones at : ℕ) : Type 0 where
  pub places_room : length places ≡ user_limit
  pub words_room : length words ≡ user_limit * row_words
  pub few : n ≤ user_limit
  pub each : (u : ℕ) → u < n → UserAt text width (from_at places u) (to_at places u) (cell words u)
  pub stands : Stands text start (text_of (lines_at text width places words n)) at
  pub starts : (u : ℕ) → u < n → drop (from_at places u) text ≡ text_of (drop u (lines_at text width places words n))
      ++ drop at text
  pub unnoted : BlankPast n places
  pub beyond : BlankPast (n * row_words) words
  pub counted : ones ≡ ones_at width words n

-- names and rows such as the lines of users have
pub record Fit (width : ℕ) (names : List Bytes) (rows : List (List Bool)) : Type 0 where
  pub few : length names ≤ user_limit
  pub as_many : length rows ≡ length names
  pub each : (name : Bytes) → Memᴰ name names → Name name
  pub even : (row : List Bool) → Memᴰ row rows → length row ≡ width

-- what reading the lines of the users gives: those up to the end of the text, or that no such lines stand there
abbrev pub UserLinesReads : Bytes → ℕ → ℕ → List ℕ → List ℕ → Option UserLines → Type 0
UserLinesReads text start width places words (Some lines) =
    LinesNoted text start width places words lines.users lines.grants (length text)
UserLinesReads text start width places words None =
    (names : List Bytes) (rows : List (List Bool)) → Fit width names rows
    → drop start text ≡ text_of (user_lines names rows) → ⊥
