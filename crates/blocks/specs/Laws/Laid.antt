-- What is known of a sheet that is laid out, and of one whose names' places are lent: it is lawful, so there are few
-- users, and a row has a bit for each permission.
use Rattle.std.specs.Prelude.{ℕ, ◌≤◌, ◌<◌, List, length}
use Rattle.std.proofs.Common.{arith}
use Rattle.spec.specs.Limits.{user_limit}
use Rattle.spec.specs.Text.{Bytes}
use Rattle.spec.specs.Sheet.{sheet_of, user_count}
use Rattle.cell_rows.specs.Rows.{row_bits}
use Rattle.cell_rows.specs.Laws.Width.{permissions_fit}
use Rattle.rules.specs.AcceptedFacts.{accepted_lawful}
use Rattle.names.specs.LaidOut.{LaidOut, UsersAt, PermissionsAt}
use Rattle.names.specs.declared.layout.Layout.{Layout}

module _ {text : Bytes} {layout : Layout} (laid : LaidOut text layout) where
  pub few_users : layout.users ≤ user_limit
  few_users = omega (arith, laid.user_total, (accepted_lawful text laid.accepts).few_users)

  pub laid_permissions_fit : layout.permissions ≤ row_bits
  laid_permissions_fit =
      omega (
        arith,
        laid.permission_total,
        (accepted_lawful text laid.accepts).few_permissions,
        permissions_fit,
      )

module _ {text : Bytes} {places : List ℕ} (at : UsersAt text places) where
  -- a place is that of a user, and each user has one
  pub user_counted : {u : ℕ} → u < length places → u < user_count (sheet_of text)
  user_counted h = omega (arith, at.names.total)

  pub users_all : {u : ℕ} → length places ≤ u → user_count (sheet_of text) ≤ u
  users_all h = omega (arith, at.names.total)

module _ {text : Bytes} {places : List ℕ} (at : PermissionsAt text places) where
  pub permissions_in_row : length places ≤ row_bits
  permissions_in_row =
      omega (
        arith,
        at.names.total,
        (accepted_lawful text at.accepts).few_permissions,
        permissions_fit,
      )
