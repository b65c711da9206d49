-- What a cell has after r roles is the "or" over roles 1 to r: a role more is one more at the end of the "or". So the
-- cell is yes after r roles exactly where one of them opens it; and after all roles, which is the product, the "or" is
-- over all of them.
use Rattle.std.specs.Prelude.{ℕ, zero, suc, ◌<◌, ◌≡◌, refl, ◌↔◌, Bool, false, ◌&&◌, ◌||◌}
use Rattle.std.proofs.Common.{le_refl, sym, ap, ◌∙◌}
use Rattle.std.proofs.Math.Nat.{le_step}
use Rattle.std.proofs.Math.Bool.{So, or_comm}
use Rattle.spec.specs.Vocabulary.{any}
use Rattle.spec.specs.RoleSet.{RoleSet, opens, cell_after, product, roles_1_to, or_over_roles}
use Rattle.bits.specs.Truth.{and_intro, and_left, and_right}
use Rattle.bits.specs.Counting.{some_below}
use Rattle.lists.specs.ListOfLaws.{list_of_last, list_of_member, list_of_element}
use Rattle.lists.specs.TestLaws.{any_intro, any_elim, any_last}

-- roles 1 to r are those of the numbers below r
pub what_a_cell_has_after_r_roles_is_the_or_over_roles_1_to_r : (roles : RoleSet) (u p r : ℕ)
    → cell_after roles u p r ≡ or_over_roles roles u p r
unfolding cell_after
what_a_cell_has_after_r_roles_is_the_or_over_roles_1_to_r roles u p zero = refl
what_a_cell_has_after_r_roles_is_the_or_over_roles_1_to_r roles u p (suc r) =
    ap (λ (b : Bool). b || opens roles u p r) (what_a_cell_has_after_r_roles_is_the_or_over_roles_1_to_r roles u p r)
    ∙ sym (any_last (opens roles u p) (roles_1_to r) r)
    ∙ ap (any (opens roles u p)) (sym (list_of_last r (λ h. h)))

pub product_is_the_or_over_all_roles : (roles : RoleSet) (u p : ℕ)
    → product roles u p ≡ or_over_roles roles u p roles.count
unfolding product
product_is_the_or_over_all_roles roles u p =
    what_a_cell_has_after_r_roles_is_the_or_over_roles_1_to_r roles u p roles.count

-- ---- as some role that opens a cell

some_after : (roles : RoleSet) (u p r : ℕ) → cell_after roles u p r ≡ some_below r (opens roles u p)
unfolding cell_after some_below
some_after roles u p zero = refl
some_after roles u p (suc r) = rw (some_after roles u p r)
    (or_comm (some_below r (opens roles u p)) (opens roles u p r))

-- the text that was the definition of the product before request [2]: its value is the same
pub product_as_it_was : (roles : RoleSet) (u p : ℕ)
    → product roles u p ≡ some_below roles.count (λ h. roles.has u h && roles.gives h p)
unfolding product
product_as_it_was roles u p = some_after roles u p roles.count

-- ---- by the roles that open a cell

-- one of the first r roles, which the user has and which holds the permission
pub record OpeningRole (roles : RoleSet) (u p r : ℕ) : Type 0 where
  pub role : ℕ
  pub within : role < r
  pub has : So (roles.has u role)
  pub gives : So (roles.gives role p)

pub opened_intro : (roles : RoleSet) (u p r : ℕ) {h : ℕ} → h < r → So (roles.has u h) → So (roles.gives h p)
    → So (cell_after roles u p r)
opened_intro roles u p r {h} l has gives =
    what_a_cell_has_after_r_roles_is_the_or_over_roles_1_to_r roles u p r
    ∙ any_intro (opens roles u p) (roles_1_to r) (list_of_member r (λ h. h) h l) (and_intro (roles.has u h)
    (roles.gives h p) has gives)

pub opened_elim : (roles : RoleSet) (u p r : ℕ) → So (cell_after roles u p r) → OpeningRole roles u p r
opened_elim roles u p r e =
    let found = any_elim (opens roles u p) (roles_1_to r) (sym
    (what_a_cell_has_after_r_roles_is_the_or_over_roles_1_to_r roles u p r)
    ∙ e) in
    let at = list_of_element r (λ h. h) found.member in
    let opening : So (opens roles u p at.place) = rw at.there found.passes in
    record {
      role = at.place;
      within = at.within;
      has = and_left (roles.has u at.place) (roles.gives at.place p) opening;
      gives = and_right (roles.has u at.place) (roles.gives at.place p) opening;
    }

-- a cell is yes after r roles exactly where one of them opens it
pub yes_exactly_where_one_opens : (roles : RoleSet) (u p r : ℕ) → So (cell_after roles u p r)
    ↔ OpeningRole roles u p r
yes_exactly_where_one_opens roles u p r = (
  opened_elim roles u p r,
  λ o. opened_intro roles u p r o.within o.has o.gives,
)

-- where no role opens a cell it is no
pub none_opens : (roles : RoleSet) (u p r : ℕ) → ((h : ℕ) → h < r → opens roles u p h ≡ false)
    → cell_after roles u p r ≡ false
unfolding cell_after
none_opens roles u p zero none = refl
none_opens roles u p (suc r) none =
    rw (none_opens roles u p r (λ h l. none h (le_step l)), none r (le_refl (suc r)))

-- two role sets whose first r roles open the same have the same cell after r roles
pub same_opens : (first second : RoleSet) (u p r : ℕ) → ((h : ℕ) → h < r → opens first u p h ≡ opens second u p h)
    → cell_after first u p r ≡ cell_after second u p r
unfolding cell_after
same_opens first second u p zero same = refl
same_opens first second u p (suc r) same =
    rw (same_opens first second u p r (λ h l. same h (le_step l)), same r (le_refl (suc r)))
