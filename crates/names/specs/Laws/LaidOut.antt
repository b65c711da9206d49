-- The layout of an accepted sheet places its users and its permissions. Assumes nothing.
use Rattle.std.specs.Prelude.{take}
use Rattle.spec.specs.Text.{Bytes}
use Rattle.names.specs.LaidOut.{LaidOut, UsersAt, PermissionsAt}
use Rattle.names.specs.declared.layout.Layout.{Layout}

module _ (text : Bytes) (layout : Layout) (l : LaidOut text layout) where
  pub users_at : UsersAt text (take layout.users layout.user_places.at)
  users_at = record { accepts = l.accepts; names = l.user_names }

  pub permissions_at : PermissionsAt text (take layout.permissions layout.permission_places.at)
  permissions_at = record { accepts = l.accepts; names = l.permission_names }
