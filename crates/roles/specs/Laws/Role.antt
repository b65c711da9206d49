-- Who has a role and what a role gives, where the roles are the classes of a placement: a user has the role of each
-- of its grants, and a role gives the permission of each of its grants. Both say that some paired grant passes a
-- test, and what is paired are the numbers of the list.
use Rattle.std.specs.Prelude.{ℕ, ◌<◌, ◌≡◌, refl, Bool, ◌&&◌, List, reverse, eqb, length}
use Rattle.std.proofs.Common.{sym, ap, ◌∙◌, eqb-true, eq-eqb}
use Rattle.std.proofs.Math.Bool.{So}
use Rattle.spec.specs.Vocabulary.{any}
use Rattle.spec.specs.Sheet.{Grant}
use Rattle.spec.specs.Cover.{grant_at}
use Rattle.spec.specs.RoleSet.{RoleSet, product}
use Rattle.spec.specs.Roles.{paired, role_set}
use Rattle.bits.specs.Truth.{and_intro, and_left, and_right}
use Rattle.lists.specs.TestLaws.{any_intro, any_elim}
use Rattle.lists.specs.Classing.{class_in}
use Rattle.product.specs.Laws.OrOverRoles.{opened_intro, opened_elim}
use Rattle.roles.specs.Laws.Paired.{paired_has, paired_only}

-- the roles of a placement of some grants
abbrev pub placed_roles : List Grant → List ℕ → ℕ → RoleSet
placed_roles grants placed count = role_set (paired (reverse grants) placed) count

-- a number whose grant has the value in some part, user or permission, and whose class is r
pub record RoleGrant (part : Grant → ℕ) (grants : List Grant) (placed : List ℕ) (value r : ℕ) : Type 0 where
  pub number : ℕ
  pub within : number < length placed
  pub valued : part (grant_at grants number) ≡ value
  pub of_role : class_in placed number ≡ r

-- some paired grant has the value and the class
abbrev some_in_role : (Grant → ℕ) → List Grant → List ℕ → ℕ → ℕ → Bool
some_in_role part grants placed value r =
    any (λ x. eqb (part x.grant) value && eqb x.class r) (paired (reverse grants) placed)

number_in_role : (part : Grant → ℕ) (grants : List Grant) (placed : List ℕ) → length grants ≡ length placed → (i : ℕ)
    → i < length placed
    → So (some_in_role part grants placed (part (grant_at grants i)) (class_in placed i))
number_in_role part grants placed e i l =
    any_intro (λ x. eqb (part x.grant) (part (grant_at grants i)) && eqb x.class (class_in placed i))
    (paired (reverse grants) placed)
    (paired_has grants placed e i l)
    (and_intro (eqb (part (grant_at grants i)) (part (grant_at grants i))) (eqb (class_in placed i) (class_in placed i))
    (eq-eqb (part (grant_at grants i)) (part (grant_at grants i)) refl)
    (eq-eqb (class_in placed i) (class_in placed i) refl))

in_role_number : (part : Grant → ℕ) (grants : List Grant) (placed : List ℕ) → length grants ≡ length placed
    → (value r : ℕ)
    → So (some_in_role part grants placed value r) → RoleGrant part grants placed value r
in_role_number part grants placed e value r s =
    let found = any_elim (λ x. eqb (part x.grant) value && eqb x.class r) (paired (reverse grants) placed) s in
    let x = found.element in
    let here = paired_only grants placed e found.member in
    record {
      number = here.number;
      within = here.within;
      valued = ap part (sym here.grant) ∙ eqb-true (part x.grant) value (and_left (eqb (part x.grant) value)
          (eqb x.class r) found.passes);
      of_role = sym here.class ∙ eqb-true x.class r (and_right (eqb (part x.grant) value) (eqb x.class r)
          found.passes);
    }

module _ (grants : List Grant) (placed : List ℕ) (count : ℕ) (whole : length grants ≡ length placed) where
  -- each grant's user has its role
  pub user_has_role : (i : ℕ) → i < length placed
      → So ((placed_roles grants placed count).has (grant_at grants i).user (class_in placed i))
  user_has_role = number_in_role (λ g. g.user) grants placed whole

  -- a user has only the roles of its grants
  pub has_role_elim : (u r : ℕ) → So ((placed_roles grants placed count).has u r) → RoleGrant (λ g. g.user) grants
      placed u r
  has_role_elim = in_role_number (λ g. g.user) grants placed whole

  -- each grant's role gives its permission
  pub role_gives_permission : (i : ℕ) → i < length placed
      → So ((placed_roles grants placed count).gives (class_in placed i) (grant_at grants i).permission)
  role_gives_permission = number_in_role (λ g. g.permission) grants placed whole

  -- a role gives only the permissions of its grants
  pub gives_permission_elim : (r p : ℕ) → So ((placed_roles grants placed count).gives r p)
      → RoleGrant (λ g. g.permission) grants placed p r
  gives_permission_elim r p = in_role_number (λ g. g.permission) grants placed whole p r

-- two numbers of one role: the user of the one and the permission of the other
pub record OpenedBy (grants : List Grant) (placed : List ℕ) (u p : ℕ) : Type 0 where
  pub first : ℕ
  pub first_within : first < length placed
  pub user : (grant_at grants first).user ≡ u
  pub second : ℕ
  pub second_within : second < length placed
  pub permission : (grant_at grants second).permission ≡ p
  pub one_role : class_in placed first ≡ class_in placed second

opened : {grants : List Grant} {placed : List ℕ} {u p r : ℕ} → RoleGrant (λ g. g.user) grants placed u r
    → RoleGrant (λ g. g.permission) grants placed p r → OpenedBy grants placed u p
opened a b =
    record {
      first = a.number;
      first_within = a.within;
      user = a.valued;
      second = b.number;
      second_within = b.within;
      permission = b.valued;
      one_role = a.of_role ∙ sym b.of_role;
    }

module _ (grants : List Grant) (placed : List ℕ) (count : ℕ) (whole : length grants ≡ length placed) where
  -- a cell that the product opens comes from two grants of one role
  pub product_elim : (u p : ℕ) → So (product (placed_roles grants placed count) u p) → OpenedBy grants placed u p
  unfolding product
  product_elim u p e =
      let by = opened_elim (placed_roles grants placed count) u p count e in
      opened (has_role_elim grants placed count whole u by.role by.has)
      (gives_permission_elim grants placed count whole by.role p by.gives)

  -- the product opens every grant whose role is counted
  pub product_intro : (i : ℕ) → i < length placed → class_in placed i < count
      → So (product (placed_roles grants placed count) (grant_at grants i).user (grant_at grants i).permission)
  unfolding product
  product_intro i l k =
      opened_intro (placed_roles grants placed count) (grant_at grants i).user (grant_at grants i).permission count k
      (user_has_role grants placed count whole i l) (role_gives_permission grants placed count whole i l)
