-- The first line of a sheet as it stands in a text: `user`, the names of the permissions, each behind a comma, and
-- the line feed. Assumes nothing.
use Rattle.std.specs.Prelude.{ℕ, zero, suc, ◌≤◌, ◌<◌, ◌≡◌, Bool, not, ◌&&◌, ltb, length, drop, Option, Some, None}
use mathlib.Core.List.{List, ◌∷◌, ◌++◌, Memᴰ}
use Rattle.spec.specs.Limits.{permission_limit, user_limit}
use Rattle.spec.specs.Text.{ascii, same_bytes, Bytes, line_text}
use Rattle.spec.specs.Rules.{Name}
use Rattle.places.specs.Places.{from_at, to_at, part, BlankPast}
use Rattle.names.specs.NamesAt.{names_at}
use Rattle.steps.specs.Stands.{Stands}
use Rattle.sheet.specs.Spelled.{NameAt}
use Rattle.sheet.specs.declared.first_line.FirstLine.{FirstLine}

-- a text starts with `user`
unfoldable pub says_user : Bytes → Bool
says_user text = not (ltb (length text) 4) && same_bytes (part 0 4 text) (ascii "user")

-- there is room for the names, and no place is noted yet
pub record NamesRoom (places : List ℕ) : Type 0 where
  pub room : length places ≡ user_limit
  pub unnoted : BlankPast 0 places

-- where what stands before name i ends: `user`, or the name before
abbrev pub end_before : List ℕ → ℕ → ℕ
end_before places zero = 4
end_before places (suc i) = to_at places i

-- each of the first n names starts one byte behind what stands before it
abbrev pub Run : List ℕ → ℕ → Type 0
Run places n = (i : ℕ) → i < n → from_at places i ≡ suc (end_before places i)

-- the first line stands in the text with n names, and it goes on at the next
pub record FirstLineStands (text : Bytes) (places : List ℕ) (n next : ℕ) : Type 0 where
  pub room : length places ≡ user_limit
  pub some_name : 1 ≤ n
  pub few : n ≤ permission_limit
  pub each : (i : ℕ) → i < n → NameAt text (from_at places i) (to_at places i)
  pub stands : Stands text 0 (line_text (ascii "user" ∷ names_at text places n)) next
  pub run : Run places n
  pub unnoted : BlankPast n places

-- names such as the first line has
pub record NamesFit (names : List Bytes) : Type 0 where
  pub some_name : 1 ≤ length names
  pub few : length names ≤ permission_limit
  pub each : (name : Bytes) → Memᴰ name names → Name name

-- the first line that was read stands in the text, and it is the one that the text starts with
pub record FirstLineThere (text : Bytes) (places : List ℕ) (line : FirstLine) : Type 0 where
  pub stands : FirstLineStands text places line.permissions line.next
  pub same : (names : List Bytes) (rest : Bytes) → NamesFit names → text ≡ line_text (ascii "user" ∷ names) ++ rest
      → (line.permissions ≡ length names) × (drop line.next text ≡ rest)

-- what reading the first line gives: such a line, or that the text starts with none
abbrev pub FirstLineReads : Bytes → List ℕ → Option FirstLine → Type 0
FirstLineReads text places (Some line) = FirstLineThere text places line
FirstLineReads text places None =
    (names : List Bytes) (rest : Bytes) → NamesFit names → text ≡ line_text (ascii "user" ∷ names) ++ rest → ⊥
