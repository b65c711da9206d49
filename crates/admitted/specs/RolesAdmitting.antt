-- The matrices with a newcomer, role by role: earlier users have the roles that they had, and the newcomer those of
-- which they hold all permissions; only the newcomer has the new one. Earlier roles have their permissions, and the new
-- one those left over. Each is one way through the tests of the definition.
use Rattle.std.specs.Prelude.{ℕ, suc, ◌≤◌, ◌<◌, ◌≡◌, Bool, true, false, cond, eqb}
use Rattle.std.proofs.Common.{arith}
use Rattle.std.proofs.Math.Path.{refl}
use borrow.Author.Tests.{eq-eqb, ne_eqb, lt-ltb, le-ltb}
use Rattle.spec.specs.Sheet.{Sheet}
use Rattle.spec.specs.RoleSet.{RoleSet}
use Rattle.spec.specs.Newcomer.{gets, left_over, some_left_over, roles_admitting}

module _ (sheet : Sheet) (u : ℕ) (roles : RoleSet) where
  pub count_admitting : (roles_admitting sheet u roles).count
      ≡ cond (some_left_over sheet u roles) (suc roles.count) roles.count
  unfolding roles_admitting
  count_admitting = refl

  pub no_fewer_roles : roles.count ≤ (roles_admitting sheet u roles).count
  no_fewer_roles = rw count_admitting (choose (some_left_over sheet u roles))
    where
      choose : (new : Bool) → roles.count ≤ cond new (suc roles.count) roles.count
      choose true = omega arith
      choose false = omega arith

  pub at_most_one_role_more : (roles_admitting sheet u roles).count ≤ suc roles.count
  at_most_one_role_more = rw count_admitting (choose (some_left_over sheet u roles))
    where
      choose : (new : Bool) → cond new (suc roles.count) roles.count ≤ suc roles.count
      choose true = omega arith
      choose false = omega arith

  pub has_as_before : (v r : ℕ) → (v ≡ u → ⊥) → r < roles.count
      → (roles_admitting sheet u roles).has v r ≡ roles.has v r
  unfolding roles_admitting
  has_as_before v r other l = rw (lt-ltb r roles.count l, ne_eqb v u other)

  pub has_theirs : (r : ℕ) → r < roles.count → (roles_admitting sheet u roles).has u r ≡ gets sheet u roles r
  unfolding roles_admitting
  has_theirs r l = rw (lt-ltb r roles.count l, eq-eqb u u refl)

  pub has_new : (v r : ℕ) → roles.count ≤ r → (roles_admitting sheet u roles).has v r ≡ eqb v u
  unfolding roles_admitting
  has_new v r l = rw (le-ltb r roles.count l)

  pub gives_as_before : (r p : ℕ) → r < roles.count → (roles_admitting sheet u roles).gives r p ≡ roles.gives r p
  unfolding roles_admitting
  gives_as_before r p l = rw (lt-ltb r roles.count l)

  pub gives_new : (r p : ℕ) → roles.count ≤ r → (roles_admitting sheet u roles).gives r p ≡ left_over sheet u roles p
  unfolding roles_admitting
  gives_new r p l = rw (le-ltb r roles.count l)
