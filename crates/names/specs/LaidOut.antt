-- The layout of an accepted sheet: its counts, where its names stand, and where its user lines start. Assumes
-- nothing.
use Rattle.std.specs.Prelude.{ℕ, suc, ◌<◌, ◌≡◌, List, length, take, drop}
use Rattle.std.proofs.Math.Bool.{So}
use Rattle.spec.specs.Text.{Bytes, lines_of}
use Rattle.spec.specs.Sheet.{sheet_of, user_count, permission_count, grants}
use Rattle.spec.specs.Refusal.{accepted}
use Rattle.places.specs.Places.{from_at, NamesPlaced}
use Rattle.names.specs.declared.layout.Layout.{Layout}

-- the text is an accepted sheet, and this is its layout
pub record LaidOut (text : Bytes) (layout : Layout) : Type 0 where
  pub accepts : So (accepted text)
  pub user_total : layout.users ≡ user_count (sheet_of text)
  pub permission_total : layout.permissions ≡ permission_count (sheet_of text)
  pub grant_total : layout.grants ≡ length (grants (sheet_of text))
  pub user_names : NamesPlaced text (take layout.users layout.user_places.at) (sheet_of text).users
  pub permission_names : NamesPlaced text (take layout.permissions layout.permission_places.at)
      (sheet_of text).permissions
  pub user_lines : (u : ℕ) → u < user_count (sheet_of text)
      → lines_of (drop (from_at layout.user_places.at u) text) ≡ drop (suc u) (lines_of text)

-- the text is an accepted sheet, and these are the places of its users' names
pub record UsersAt (text : Bytes) (places : List ℕ) : Type 0 where
  pub accepts : So (accepted text)
  pub names : NamesPlaced text places (sheet_of text).users

-- the text is an accepted sheet, and these are the places of its permissions' names
pub record PermissionsAt (text : Bytes) (places : List ℕ) : Type 0 where
  pub accepts : So (accepted text)
  pub names : NamesPlaced text places (sheet_of text).permissions
