-- The new role. Where no permission is left over there is none, and the state word and the bound are kept; where some
-- are, one new role holds exactly those, only the newcomer has it, and the book says `open` with its witness count.
use Rattle.std.specs.Prelude.{ℕ, ◌≡◌, refl, ◌⊎◌, false}
use Rattle.std.proofs.Common.{le_refl, arith, sym, ◌∙◌, inl, inr, ⊎_elim}
use Rattle.std.proofs.Math.Bool.{So}
use borrow.Author.Tests.{eq-eqb, ne_eqb}
use Rattle.spec.specs.Sheet.{Sheet}
use Rattle.spec.specs.Book.{Said}
use Rattle.spec.specs.Newcomer.{some_left_over, roles_admitting, said_admitting}
use Rattle.spec.specs.Admitted.{NoNewRole, OneNewRole}
use Rattle.bits.specs.Truth.{passes_or_fails, not_both}
use Rattle.admitted.specs.LeftOver.{left_over_exactly, some_left_over_elim, some_left_over_intro}
use Rattle.admitted.specs.RolesAdmitting.{has_new, gives_new}

module _ (sheet : Sheet) (u : ℕ) (before : Said) where
  no_new_role : some_left_over sheet u before.roles ≡ false
      → NoNewRole sheet u before (said_admitting sheet u before)
  unfolding said_admitting roles_admitting
  no_new_role none =
      record {
        none_left = λ p left. not_both (some_left_over_intro sheet u before.roles p left) none;
        count = rw none;
        standing = rw none;
        bound = rw none;
      }

  one_new_role : So (some_left_over sheet u before.roles) → OneNewRole sheet u before (said_admitting sheet u before)
  unfolding said_admitting roles_admitting
  one_new_role some =
      let found = some_left_over_elim sheet u before.roles some in
      let last = before.roles.count in
      record {
        left = found.permission;
        some_left = found.left;
        count = rw some;
        exactly = λ p l.
            let exact = left_over_exactly sheet u before.roles p l in
            let gives = gives_new sheet u before.roles last p (le_refl last) in
            (λ e. exact.0 (sym gives ∙ e), λ left. gives ∙ exact.1 left);
        has_new = has_new sheet u before.roles u last (le_refl last) ∙ eq-eqb u u refl;
        only_theirs = λ v l. has_new sheet u before.roles v last (le_refl last) ∙ ne_eqb v u (λ e. omega arith);
        standing = rw some;
        bound = rw some;
      }

  pub new_role_if_left_over : NoNewRole sheet u before (said_admitting sheet u before)
      ⊎ OneNewRole sheet u before (said_admitting sheet u before)
  new_role_if_left_over =
      ⊎_elim (λ some. inr (one_new_role some)) (λ none. inl (no_new_role none))
      (passes_or_fails (some_left_over sheet u before.roles))
