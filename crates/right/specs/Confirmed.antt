-- A book that is written from counts, roles and a witness that are right is of the form and short enough, and so it
-- is right.
use Rattle.std.specs.Prelude.{ℕ, ◌≤◌, length}
use Rattle.std.proofs.Math.Nat.{le_trans, lt_of_lt_of_le}
use Rattle.std.proofs.Common.{le_of_eq, arith}
use Rattle.std.proofs.Math.Path.{refl}
use Rattle.std.proofs.Math.Bool.{So}
use Rattle.spec.specs.Limits.{role_limit, user_limit, permission_limit, name_limit, book_limit}
use Rattle.spec.specs.Text.{Bytes}
use Rattle.spec.specs.Sheet.{Sheet, sheet_of, permission_count}
use Rattle.spec.specs.RoleSet.{Multiplies}
use Rattle.spec.specs.Roles.{Standing, witnessed, searched, unsettled}
use Rattle.spec.specs.Book.{Said, sheet_spelling, book_text}
use Rattle.spec.specs.Right.{BoundAgrees, CountsAgree, WitnessStands, Right}
use Rattle.spec.specs.Refusal.{accepted}
use Rattle.cells.specs.Laws.Grant.{held_user_below, held_permission_below}
use Rattle.rules.specs.Accepted.{accepted_keeps}
use Rattle.right.specs.BookLength.{Small, short_decimal, book_within_limit}

-- a book whose roles are few, whose counts agree, whose product is the sheet and whose witness stands
pub record SoundBook (sheet : Sheet) (book : Said) : Type 0 where
  pub few_roles : book.roles.count ≤ role_limit
  pub counts : CountsAgree book
  pub product : Multiplies book.roles sheet
  pub witness : WitnessStands sheet book.witness

-- ---- what is sound is right

pub bound_le_roles : (s : Standing) (bound roles lines : ℕ) → BoundAgrees s bound roles lines → (bound ≤ roles)
    × (lines ≤ roles)
bound_le_roles witnessed bound roles lines b = (omega arith, omega arith)
bound_le_roles searched bound roles lines b = (omega arith, omega arith)
bound_le_roles unsettled bound roles lines b = (omega arith, omega arith)

module _ (text : Bytes) (takes : So (accepted text)) (book : Said) (s : SoundBook (sheet_of text) book) where
  sound_small : Small (sheet_of text) book
  unfolding user_limit permission_limit name_limit
  sound_small =
      let kept = accepted_keeps text takes in
      let least = bound_le_roles book.standing book.bound book.roles.count (length book.witness)
      s.counts.bound in
      record {
        few_users = kept.few_users;
        few_permissions = kept.few_permissions;
        short_users = λ name m. (kept.user_names.each name m).short;
        short_permissions = λ name m. (kept.permission_names.each name m).short;
        few_roles = s.few_roles;
        few_lines = le_trans least.1 s.few_roles;
        short_count = rw s.counts.roles (short_decimal book.roles.count s.few_roles);
        short_bound = short_decimal book.bound (le_trans least.0 s.few_roles);
      }

  pub sound_is_right : Right (sheet_of text) (book_text (sheet_of text) book) book
  unfolding role_limit book_limit book_text
  sound_is_right =
      let kept = accepted_keeps text takes in
      record {
        of_form = record {
          spelling = sheet_spelling (sheet_of text) book;
          written = refl;
          same_names = record { permissions = refl; users = refl; witness = refl };
          short = book_within_limit (sheet_of text) book sound_small;
          few_roles = s.few_roles;
          known_users = λ g m.
              lt_of_lt_of_le (held_user_below (sheet_of text) g.user g.permission (s.witness.all_held g m))
              (le_of_eq kept.a_row_each);
          known_permissions = λ g m.
              held_permission_below (sheet_of text) g.user g.permission (permission_count (sheet_of text))
              kept.even_rows
              (s.witness.all_held g m);
        };
        counts = s.counts;
        product = s.product;
        witness = s.witness;
      }
