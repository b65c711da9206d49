-- What was noted of a sheet that was read in one pass. Assumes nothing.
use Rattle.std.specs.Prelude.{ℕ, ◌≤◌, List, length, Option, Some, None}
use Rattle.std.proofs.Math.Bool.{So}
use Rattle.spec.specs.Limits.{sheet_limit, grant_limit}
use Rattle.spec.specs.Text.{Bytes}
use Rattle.spec.specs.Refusal.{accepted}
use Rattle.sheet.specs.FirstLine.{NamesRoom, FirstLineStands}
use Rattle.sheet.specs.UserLines.{Room, LinesNoted}
use Rattle.sheet.specs.declared.kept.Counts.{Counts}

-- there is room for as many names and rows as there can be, and nothing is noted yet
pub record SheetRoom (permissions users words : List ℕ) : Type 0 where
  pub permissions_room : NamesRoom permissions
  pub users_room : Room users words

-- what was noted: the places of the names, the words of the cells, and the counts
pub record Notes : Type 0 where
  pub permissions : List ℕ
  pub users : List ℕ
  pub words : List ℕ
  pub counts : Counts

-- the lines of a sheet stand in the text as they were noted
pub record LinesStand (text : Bytes) (n : Notes) : Type 0 where
  pub next : ℕ
  pub first : FirstLineStands text n.permissions n.counts.permissions next
  pub lines : LinesNoted text next n.counts.permissions n.users n.words n.counts.users
      n.counts.grants (length text)

-- and within all limits
pub record SheetStands (text : Bytes) (n : Notes) : Type 0 where
  pub stand : LinesStand text n
  pub short : length text ≤ sheet_limit
  pub some_user : 1 ≤ n.counts.users
  pub few_grants : n.counts.grants ≤ grant_limit

abbrev pub notes_of : List ℕ → List ℕ → List ℕ → Counts → Notes
notes_of permissions users words counts =
    record { permissions = permissions; users = users; words = words; counts = counts }

-- what reading the lines of a sheet gives: how they stand, or that the sheet is not accepted
abbrev pub SheetLines : Bytes → List ℕ → List ℕ → List ℕ → Option Counts → Type 0
SheetLines text permissions users words (Some counts) =
    SheetStands text (notes_of permissions users words counts)
SheetLines text permissions users words None = So (accepted text) → ⊥
