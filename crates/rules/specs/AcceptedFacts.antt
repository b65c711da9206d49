-- What an accepted sheet has, place by place: counts within the limits, a row for each user and a cell for each
-- permission, and names that are not empty, hold neither comma nor line feed and stand in one place each. All of it
-- is read off the rules. Assumes nothing.
use Rattle.std.specs.Prelude.{ℕ, ◌≤◌, ◌<◌, ◌≡◌, [], length, get_or}
use Rattle.std.proofs.Common.{arith}
use Rattle.std.proofs.Math.Bool.{So}
use Rattle.spec.specs.Limits.{sheet_limit, permission_limit, user_limit, grant_limit}
use Rattle.spec.specs.Text.{Bytes}
use Rattle.spec.specs.Sheet.{Sheet, sheet_of, user_count, permission_count, grants}
use Rattle.spec.specs.Rules.{Name, Names, Keeps}
use Rattle.spec.specs.Refusal.{accepted}
use Rattle.lists.specs.TestLaws.{member_at}
use Rattle.text.specs.Laws.Text.{Field}
use Rattle.rules.specs.WrittenLaws.{spelled_field}
use Rattle.rules.specs.Accepted.{accepted_keeps}

-- ---- names

-- a name is a field that a line can hold
pub name_field : (name : Bytes) → Name name → Field name
name_field name n = spelled_field name n.spelled

-- ---- sheets

-- what a sheet that keeps the rules has, whatever its bytes are
pub record Lawful (sheet : Sheet) : Type 0 where
  pub some_permission : 1 ≤ permission_count sheet
  pub few_permissions : permission_count sheet ≤ permission_limit
  pub some_user : 1 ≤ user_count sheet
  pub few_users : user_count sheet ≤ user_limit
  pub permission_names : Names sheet.permissions
  pub user_names : Names sheet.users
  pub a_row_each : length sheet.rows ≡ user_count sheet
  pub a_cell_each : (u : ℕ) → u < user_count sheet → length (get_or sheet.rows u []) ≡ permission_count sheet
  pub user_name : (u : ℕ) → u < user_count sheet → Name (get_or sheet.users u [])
  pub permission_name : (p : ℕ) → p < permission_count sheet → Name (get_or sheet.permissions p [])
  pub few_grants : length (grants sheet) ≤ grant_limit

pub keeps_lawful : (text : Bytes) (sheet : Sheet) → Keeps text sheet → Lawful sheet
unfolding permission_limit user_limit grant_limit
keeps_lawful text sheet k =
    record {
      some_permission = k.some_permission;
      few_permissions = k.few_permissions;
      some_user = k.some_user;
      few_users = k.few_users;
      permission_names = k.permission_names;
      user_names = k.user_names;
      a_row_each = k.a_row_each;
      a_cell_each = λ u h.
          k.even_rows (get_or sheet.rows u []) (member_at sheet.rows u [] (let e = k.a_row_each in omega arith));
      user_name = λ u h. k.user_names.each (get_or sheet.users u []) (member_at sheet.users u [] h);
      permission_name = λ p h. k.permission_names.each (get_or sheet.permissions p [])
          (member_at sheet.permissions p [] h);
      few_grants = k.few_grants;
    }

-- so has every accepted sheet
pub accepted_lawful : (text : Bytes) → So (accepted text) → Lawful (sheet_of text)
accepted_lawful text p = keeps_lawful text (sheet_of text) (accepted_keeps text p)

pub accepted_short : (text : Bytes) → So (accepted text) → length text ≤ sheet_limit
unfolding sheet_limit
accepted_short text p = (accepted_keeps text p).short
