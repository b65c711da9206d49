-- The places of a layout's names are the first of its arrays, and the lines of a book have few bytes for their cells.
use Rattle.std.specs.Prelude.{ℕ, ◌+◌, ◌*◌, ◌≤◌, ◌≡◌, List, length, take}
use Rattle.std.proofs.Common.{mul-le-mul_right, arith, length-take}
use Rattle.spec.specs.Text.{Bytes}
use Rattle.names.specs.LaidOut.{LaidOut, UsersAt, PermissionsAt}
use Rattle.names.specs.Laws.LaidOut.{users_at, permissions_at}
use Rattle.names.specs.declared.layout.Layout.{Layout}

module _ {text : Bytes} {layout : Layout} (laid : LaidOut text layout) where
  pub users_placed : layout.users ≤ length layout.user_places.at
  users_placed =
      omega (
        arith,
        length-take layout.users layout.user_places.at,
        laid.user_names.total,
        laid.user_total,
      )

  pub permissions_placed : layout.permissions ≤ length layout.permission_places.at
  permissions_placed =
      omega (
        arith,
        length-take layout.permissions layout.permission_places.at,
        laid.permission_names.total,
        laid.permission_total,
      )

module _ {text : Bytes} {layout : Layout} (laid : LaidOut text layout) {places : List ℕ} where
  -- these places of each kind
  pub users_lent : places ≡ take layout.users layout.user_places.at → UsersAt text places
  users_lent e = rw e (users_at text layout laid)

  pub permissions_lent : places ≡ take layout.permissions layout.permission_places.at
      → PermissionsAt text places
  permissions_lent e = rw e (permissions_at text layout laid)

-- so many lines of so many cells
pub cells_small : (cells : ℕ) {lines most : ℕ} → lines ≤ most → lines * (2 * cells + 1) ≤ most * (2 * cells + 1)
cells_small cells h = mul-le-mul_right (2 * cells + 1) h
