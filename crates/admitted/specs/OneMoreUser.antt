-- A sheet with one user more, who is the last. The cells of the earlier users are as they were, so all that looks at
-- earlier users alone is as it was: a witness still stands, and a role set whose product is the longer sheet has the
-- given sheet for its product too. So the longer sheet needs at least as many roles.
use Rattle.std.specs.Prelude.{ℕ, suc, ◌<◌, ◌≡◌, refl, Bool, length}
use Rattle.std.proofs.Common.{lt_trans, arith, ◌∙◌}
use mathlib.Core.List.{List, Memᴰ}
use Rattle.spec.specs.Text.{Bytes}
use Rattle.spec.specs.Sheet.{Sheet, Grant, user_count, permission_count, holds}
use Rattle.spec.specs.Fit.{fits}
use Rattle.spec.specs.Cover.{grant_at}
use Rattle.spec.specs.RoleSet.{RoleSet, Multiplies}
use Rattle.spec.specs.Right.{WitnessStands}
use Rattle.spec.specs.Admitted.{with_user, AtLeast}
use Rattle.longer.specs.AddedUser.{user_count_with, earlier_holds}
use Rattle.cells.specs.Laws.Number.{grant_at_member}

-- one user more, the same permissions, and the cells of the earlier users as they were
pub record OneMore (given longer : Sheet) : Type 0 where
  pub users : user_count longer ≡ suc (user_count given)
  pub permissions : permission_count longer ≡ permission_count given
  pub cells : (u p : ℕ) → u < user_count given → holds longer u p ≡ holds given u p

pub with_user_is_one_more : (sheet : Sheet) (name : Bytes) (row : List Bool)
    → length sheet.rows ≡ user_count sheet → OneMore sheet (with_user sheet name row)
with_user_is_one_more sheet name row a_row_each =
    record {
      users = user_count_with sheet name row;
      permissions = refl;
      cells = earlier_holds sheet name row a_row_each;
    }

module _ {given longer : Sheet} (more : OneMore given longer) where
  -- two grants of earlier users fit exactly where they did
  fits_as_before : (g h : Grant) → g.user < user_count given → h.user < user_count given
      → fits longer g h ≡ fits given g h
  fits_as_before g h k l =
      rw (more.cells g.user h.permission k, more.cells h.user g.permission l)

  -- a witness of earlier users still stands
  pub witness_still_stands : (witness : List Grant)
      → ((g : Grant) → Memᴰ g witness → g.user < user_count given)
      → WitnessStands given witness → WitnessStands longer witness
  witness_still_stands witness earlier stands =
      record {
        all_held = λ g m. more.cells g.user g.permission (earlier g m) ∙ stands.all_held g m;
        none_fit = λ i j l k.
            fits_as_before (grant_at witness i) (grant_at witness j) (known i (lt_trans l k)) (known j k)
            ∙ stands.none_fit i j l k;
      }
    where
      known : (i : ℕ) → i < length witness → (grant_at witness i).user < user_count given
      known i l = earlier (grant_at witness i) (grant_at_member witness i l)

  -- a role set for the longer sheet is one for the given sheet
  pub multiplies_to_the_given : {roles : RoleSet} → Multiplies roles longer → Multiplies roles given
  multiplies_to_the_given multiplies =
      record {
        cell = λ u p l k.
            multiplies.cell u p (omega (arith, more.users)) (omega (arith, more.permissions)) ∙ more.cells u p l;
      }

  -- so at least as many roles are needed
  pub at_least_as_before : (n : ℕ) → AtLeast n given → AtLeast n longer
  at_least_as_before n least roles multiplies = least roles (multiplies_to_the_given multiplies)
