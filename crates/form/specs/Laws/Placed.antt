-- A layout has room for the places of all names of its sheet.
use Rattle.std.specs.Prelude.{ℕ, ◌≤◌, ◌≡◌, List, length, take}
use Rattle.std.proofs.Common.{arith, length-take}
use Rattle.spec.specs.Text.{Bytes}
use Rattle.places.specs.Places.{NamesPlaced}
use Rattle.names.specs.LaidOut.{LaidOut}
use Rattle.names.specs.declared.layout.Layout.{Layout}

placed : (text : Bytes) (n : ℕ) (at : List ℕ) (names : List Bytes) → n ≡ length names
    → NamesPlaced text (take n at) names → n ≤ length at
placed text n at names total p = omega (arith, total, p.total, length-take n at)

module _ {text : Bytes} {layout : Layout} (laid : LaidOut text layout) where
  pub users_placed : layout.users ≤ length layout.user_places.at
  users_placed = placed text layout.users layout.user_places.at _ laid.user_total laid.user_names

  pub permissions_placed : layout.permissions ≤ length layout.permission_places.at
  permissions_placed =
      placed text layout.permissions layout.permission_places.at _ laid.permission_total
      laid.permission_names
