-- The product of the roles with the newcomer is the longer sheet. An earlier user has the roles that they had, with the
-- permissions that these had, and not the new one. The newcomer has only roles of which they hold all permissions; and
-- a permission that they hold is in one of those, or else it is left over and in the new role. Nothing here asks that
-- they are the last user, but what is said of the longer sheet.
use Rattle.std.specs.Prelude.{ℕ, ◌≤◌, ◌<◌, ◌≡◌, refl, ◌≢◌, false, eqb}
use Rattle.std.proofs.Common.{lt_of_lt_of_le, arith, sym, ◌∙◌, ⊎_elim, eqb-true, eq-eqb}
use Rattle.std.proofs.Math.Bool.{So}
use Rattle.std.proofs.lemmas.Bool.{eqb-false}
use Rattle.spec.specs.Sheet.{Sheet, user_count, permission_count, holds}
use Rattle.spec.specs.RoleSet.{RoleSet, product, Multiplies}
use Rattle.spec.specs.Newcomer.{left_over, roles_admitting}
use Rattle.bits.specs.Truth.{passes_or_fails, same_truth}
use Rattle.bits.specs.Laws.Below.{below_or_from}
use Rattle.product.specs.Laws.OrOverRoles.{opened_intro, opened_elim}
use Rattle.admitted.specs.OneMoreUser.{OneMore}
use Rattle.admitted.specs.LeftOver.{gets_exactly, left_over_held, got_or_left_over, left_over_exactly}
use Rattle.admitted.specs.LeftOver.{some_left_over_intro}
use Rattle.admitted.specs.RolesAdmitting.{count_admitting, no_fewer_roles, has_as_before, has_theirs, has_new}
use Rattle.admitted.specs.RolesAdmitting.{gives_as_before, gives_new}

module _ (sheet : Sheet) (u : ℕ) (roles : RoleSet) where
  -- ---- a cell of an earlier user

  pub earlier_cell : (v p : ℕ) → (v ≡ u → ⊥) → product (roles_admitting sheet u roles) v p ≡ product roles v p
  unfolding product
  earlier_cell v p other = same_truth (product admitting v p) (product roles v p) back on
    where
      admitting : RoleSet
      admitting = roles_admitting sheet u roles

      back : So (product admitting v p) → So (product roles v p)
      back e =
          let opening = opened_elim admitting v p admitting.count e in
          ⊎_elim
          (λ (l : opening.role < roles.count).
          opened_intro roles v p roles.count l
          (sym (has_as_before sheet u roles v opening.role other l) ∙ opening.has)
          (sym (gives_as_before sheet u roles opening.role p l) ∙ opening.gives))
          (λ (l : roles.count ≤ opening.role).
          absurd (other (eqb-true v u (sym (has_new sheet u roles v opening.role l) ∙ opening.has))))
          (below_or_from opening.role roles.count)

      on : So (product roles v p) → So (product admitting v p)
      on e =
          let opening = opened_elim roles v p roles.count e in
          opened_intro admitting v p admitting.count (lt_of_lt_of_le opening.within (no_fewer_roles sheet u roles))
          (has_as_before sheet u roles v opening.role other opening.within ∙ opening.has)
          (gives_as_before sheet u roles opening.role p opening.within ∙ opening.gives)

  -- ---- a cell of the newcomer

  pub newcomer_cell : (p : ℕ) → p < permission_count sheet
      → product (roles_admitting sheet u roles) u p ≡ holds sheet u p
  unfolding product
  newcomer_cell p k = same_truth (product admitting u p) (holds sheet u p) within covered
    where
      admitting : RoleSet
      admitting = roles_admitting sheet u roles

      within : So (product admitting u p) → So (holds sheet u p)
      within e =
          let opening = opened_elim admitting u p admitting.count e in
          ⊎_elim
          (λ (l : opening.role < roles.count).
          (gets_exactly sheet u roles opening.role).0
          (sym (has_theirs sheet u roles opening.role l) ∙ opening.has) p k
          (sym (gives_as_before sheet u roles opening.role p l) ∙ opening.gives))
          (λ (l : roles.count ≤ opening.role).
          left_over_held sheet u roles p (sym (gives_new sheet u roles opening.role p l) ∙ opening.gives))
          (below_or_from opening.role roles.count)

      in_the_new_role : So (left_over sheet u roles p) → So (product admitting u p)
      in_the_new_role left =
          let new = some_left_over_intro sheet u roles p ((left_over_exactly sheet u roles p k).0 left) in
          opened_intro admitting u p admitting.count {h = roles.count}
          (rw (count_admitting sheet u roles, new) (omega arith))
          (has_new sheet u roles u roles.count (omega arith) ∙ eq-eqb u u refl)
          (gives_new sheet u roles roles.count p (omega arith) ∙ left)

      in_a_role_got : So (holds sheet u p) → left_over sheet u roles p ≡ false → So (product admitting u p)
      in_a_role_got held none =
          let got = got_or_left_over sheet u roles p held none in
          opened_intro admitting u p admitting.count (lt_of_lt_of_le got.within (no_fewer_roles sheet u roles))
          (has_theirs sheet u roles got.role got.within ∙ got.theirs)
          (gives_as_before sheet u roles got.role p got.within ∙ got.gives)

      covered : So (holds sheet u p) → So (product admitting u p)
      covered held = ⊎_elim in_the_new_role (in_a_role_got held) (passes_or_fails (left_over sheet u roles p))

  -- ---- the product

  -- any user of a sheet can be put in like this: if the roles give every other user what the sheet says, then with user
  -- u put in they multiply to the sheet
  pub putting_in_multiplies :
      ((v p : ℕ) → v < user_count sheet → p < permission_count sheet → v ≢ u → product roles v p ≡ holds sheet v p)
      → Multiplies (roles_admitting sheet u roles) sheet
  putting_in_multiplies others =
      record {
        cell = λ v p l k.
            ⊎_elim (λ (e : So (eqb v u)). rw (eqb-true v u e) (newcomer_cell p k))
            (λ (f : eqb v u ≡ false).
            earlier_cell v p (eqb-false v u f) ∙ others v p l k (eqb-false v u f))
            (passes_or_fails (eqb v u));
      }

-- a newcomer is the last user of the longer sheet
pub admitting_multiplies : {given longer : Sheet} → OneMore given longer → (roles : RoleSet) → Multiplies roles given
    → Multiplies (roles_admitting longer (user_count given) roles) longer
admitting_multiplies {given} {longer} more roles multiplies =
    putting_in_multiplies longer (user_count given) roles
    (λ v p l k other.
    let earlier : v < user_count given = omega (arith, more.users, other) in
    multiplies.cell v p earlier (omega (arith, more.permissions)) ∙ sym (more.cells v p earlier))
