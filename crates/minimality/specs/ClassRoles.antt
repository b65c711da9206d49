-- Classes become roles. The roles of grants in classes number the classes by first appearance, so two grants have one
-- role exactly if they have one class. A cell that a role opens comes from two grants of one class, which fit: so it
-- is held. And a held cell is a grant, whose role opens it. There are no more roles than classes, and as many if
-- every class has a grant.
use Rattle.std.specs.Prelude.{ℕ, ◌≤◌, ◌<◌, ◌≡◌, eqb, length}
use Rattle.std.proofs.Common.{lt_of_lt_of_le, le_of_eq, sym, ap, ◌∙◌, eq-eqb}
use Rattle.std.proofs.Math.Bool.{So}
use mathlib.Core.List.{List, Memᴰ}
use Rattle.spec.specs.Sheet.{Sheet, Grant, holds, grants}
use Rattle.spec.specs.Cover.{used, grant_at}
use Rattle.spec.specs.RoleSet.{product, Multiplies}
use Rattle.spec.specs.Roles.{Classed, class_of, class_at, role_numbers, roles_of_classes}
use Rattle.bits.specs.Truth.{same_truth}
use Rattle.bits.specs.Laws.Below.{some_below_intro}
use Rattle.lists.specs.Classing.{class_in}
use Rattle.lists.specs.PlacementLaws.{class_below_used}
use Rattle.lists.specs.GroupingLaws.{grouping_length}
use Rattle.lists.specs.KeyLaws.{KeyedBy, has_key, grouping_keyed, grouping_used_le, grouping_used_all}
use Rattle.cells.specs.Laws.Grant.{held_grant}
use Rattle.fit.specs.Laws.Fit.{fits_first}
use Rattle.cells.specs.Laws.Number.{grant_at_member, member_number}
use Rattle.roles.specs.Laws.Role.{product_elim, product_intro}
use Rattle.minimality.specs.GrantClassing.{ClassingOf}

-- ---- one role is one class

module _ (all : List Grant) (members : List Classed) where
  pub role_numbers_length : length (role_numbers all members) ≡ length all
  role_numbers_length = grouping_length (class_at all members) (length all)

  -- the class of a grant by its number
  abbrev class_number : ℕ → ℕ
  class_number i = class_of members (grant_at all i)

  pub roles_are_classes : KeyedBy class_number (length all) (class_in (role_numbers all members))
  roles_are_classes = grouping_keyed class_number (length all)

  -- ---- how many roles there are

  -- no more roles than classes
  pub role_count_le : (count : ℕ) → ((g : Grant) → Memᴰ g all → class_of members g < count)
      → (roles_of_classes all members).count ≤ count
  role_count_le count within =
      grouping_used_le class_number (length all) count (λ i l. within (grant_at all i) (grant_at_member all i l))

  -- a grant of a class
  pub record InClass (c : ℕ) : Type 0 where
    pub grant : Grant
    pub member : Memᴰ grant all
    pub of_class : class_of members grant ≡ c

  -- as many roles as classes, if every class has a grant
  pub role_count_is_class_count : (count : ℕ) → ((g : Grant) → Memᴰ g all → class_of members g < count)
      → ((c : ℕ) → c < count → InClass c) → (roles_of_classes all members).count ≡ count
  role_count_is_class_count count within inhabited =
      grouping_used_all class_number (length all) count (λ i l. within (grant_at all i) (grant_at_member all i l))
      appears
    where
      appears : (c : ℕ) → c < count → So (has_key class_number (length all) c)
      appears c l =
          let r = inhabited c l in
          let found = member_number all r.member in
          some_below_intro (length all) (λ i. eqb (class_number i) c) found.within
          (eq-eqb (class_number found.number) c (ap (class_of members) found.there ∙ r.of_class))

-- ---- the product of the roles

-- what a role opens is held
opened_is_held : (sheet : Sheet) (members : List Classed) (count : ℕ) → ClassingOf sheet (grants sheet) count
    (class_of members)
    → (u p : ℕ) → So (product (roles_of_classes (grants sheet) members) u p) → So (holds sheet u p)
opened_is_held sheet members count classing u p e =
    let all = grants sheet in
    let numbers = role_numbers all members in
    let same = role_numbers_length all members in
    let o = product_elim all numbers (used numbers) (sym same) u p e in
    let i : o.first < length all = lt_of_lt_of_le o.first_within (le_of_eq same) in
    let j : o.second < length all = lt_of_lt_of_le o.second_within (le_of_eq same) in
    let one_class = (roles_are_classes all members).one_key o.first o.second i j o.one_role in
    let fit =
    classing.fitting (grant_at all o.first) (grant_at all o.second) (grant_at_member all o.first i)
    (grant_at_member all o.second j) one_class
    in
    rw (o.user, o.permission) at (fits_first sheet (grant_at all o.first) (grant_at all o.second) fit)

-- what is held is opened by the role of its grant
held_is_opened : (sheet : Sheet) (members : List Classed) (u p : ℕ) → So (holds sheet u p)
    → So (product (roles_of_classes (grants sheet) members) u p)
held_is_opened sheet members u p e =
    let all = grants sheet in
    let numbers = role_numbers all members in
    let found = member_number all (held_grant sheet (record { user = u; permission = p }) e) in
    let l : found.number < length numbers = rw (role_numbers_length all members) found.within in
    rw found.there at
    (product_intro all numbers (used numbers) (sym (role_numbers_length all members)) found.number l
    (class_below_used numbers l))

-- the roles of a classing of all grants multiply to the sheet
pub classes_multiply : (sheet : Sheet) (members : List Classed) (count : ℕ) → ClassingOf sheet (grants sheet) count
    (class_of members)
    → Multiplies (roles_of_classes (grants sheet) members) sheet
classes_multiply sheet members count classing =
    record {
      cell = λ u p i j.
          same_truth (product (roles_of_classes (grants sheet) members) u p) (holds sheet u p)
          (opened_is_held sheet members count classing u p) (held_is_opened sheet members u p);
    }
