-- Rows and columns exchanged, of a role set and of a sheet: what were users are permissions, and what were permissions
-- are users.
use Rattle.spec.specs.Vocabulary.{list_of}
use Rattle.spec.specs.Sheet.{Sheet, user_count, permission_count, holds}
use Rattle.spec.specs.RoleSet.{RoleSet}

-- who has a role are its permissions, and its permissions are who has it
abbrev pub exchanged_roles : RoleSet → RoleSet
exchanged_roles roles = record { count = roles.count; has = λ p r. roles.gives r p; gives = λ r u. roles.has u r }

-- permissions are users, and users permissions
abbrev pub exchanged : Sheet → Sheet
exchanged sheet =
    record {
      users = sheet.permissions;
      permissions = sheet.users;
      rows = list_of (permission_count sheet) (λ p. list_of (user_count sheet) (λ u. holds sheet u p));
    }
