-- Why no role set beats a witness. A role set that multiplies to the sheet classes all grants: each by the lowest
-- role that covers it, and two grants under one role fit, since the product opens both cells that are asked for.
-- Grants of which no two fit are all of different classes, so there are at least as many classes, and at least as
-- many roles, as such grants.
use Rattle.std.specs.Prelude.{ℕ, ◌≤◌, ◌<◌, ◌≡◌, refl, Bool, true, length}
use Rattle.std.proofs.Common.{arith, sym, ◌∙◌, ⊎_elim}
use Rattle.std.proofs.Math.Bool.{So}
use mathlib.Core.List.{List, Memᴰ}
use Rattle.std.proofs.Math.Option.{get_or}
use Rattle.spec.specs.Vocabulary.{lowest_below}
use Rattle.spec.specs.Sheet.{Sheet, Grant, holds, user_count, permission_count, grants}
use Rattle.spec.specs.Fit.{fits}
use Rattle.spec.specs.Cover.{grant_at}
use Rattle.spec.specs.RoleSet.{RoleSet, opens, product, Multiplies}
use Rattle.bits.specs.Truth.{not_both, and_left, and_right}
use Rattle.bits.specs.Counting.{Lowest}
use Rattle.bits.specs.Laws.Below.{below_or_from}
use Rattle.bits.specs.Laws.Lowest.{lowest_below_found, lowest_below_intro}
use Rattle.bits.specs.Laws.Count.{count_below_all_intro}
use Rattle.bits.specs.Laws.CountJoin.{count_below_injects}
use Rattle.cells.specs.Laws.Grant.{grant_held, held_user_below, held_permission_below}
use Rattle.fit.specs.Laws.Fit.{Held, fits_intro}
use Rattle.cells.specs.Laws.Number.{grant_at_member}
use Rattle.product.specs.Laws.OrOverRoles.{product_as_it_was, opened_intro}
use Rattle.minimality.specs.GrantClassing.{Even, ClassingOf, Independent}

-- ---- the cells of an even sheet

pub even_user_below : {sheet : Sheet} → Even sheet → (u p : ℕ) → So (holds sheet u p) → u < user_count sheet
even_user_below {sheet} even u p e = rw even.a_row_each at (held_user_below sheet u p e)

pub even_permission_below : {sheet : Sheet} → Even sheet → (u p : ℕ) → So (holds sheet u p) → p < permission_count sheet
even_permission_below {sheet} even u p e = held_permission_below sheet u p (permission_count sheet) even.even_rows e

-- ---- a role set classes all grants

-- the role covers the grant: its user has the role, and the role holds its permission
abbrev pub covers : RoleSet → Grant → ℕ → Bool
covers roles g r = opens roles g.user g.permission r

-- the lowest role that covers a grant
pub covering_role : RoleSet → Grant → ℕ
covering_role roles g = get_or (lowest_below roles.count (covers roles g)) 0

covers_elim : (roles : RoleSet) (g : Grant) (r : ℕ) → So (covers roles g r) → So (roles.has g.user r)
    × So (roles.gives r g.permission)
covers_elim roles g r e = (
  and_left (roles.has g.user r) (roles.gives r g.permission) e,
  and_right (roles.has g.user r)
      (roles.gives r g.permission) e,
)

-- in a role set that multiplies to the sheet a held grant is covered
pub held_is_covered : {roles : RoleSet} {sheet : Sheet} → Even sheet → Multiplies roles sheet → (g : Grant)
    → Held sheet g
    → Lowest roles.count (covers roles g) (covering_role roles g)
unfolding covering_role
held_is_covered {roles} {sheet} even multiplies g held =
    let i = even_user_below even g.user g.permission held in
    let j = even_permission_below even g.user g.permission held in
    let opened = sym (product_as_it_was roles g.user g.permission) ∙ multiplies.cell g.user g.permission i j
    ∙ held in
    let w = lowest_below_found roles.count (covers roles g) opened in
    rw (lowest_below_intro roles.count (covers roles g) w.1) w.1

-- what a role opens is held, within the sheet
pub role_opens : {roles : RoleSet} {sheet : Sheet} → Multiplies roles sheet → (u p : ℕ) → u < user_count sheet
    → p < permission_count sheet
    → {r : ℕ} → r < roles.count → So (roles.has u r) → So (roles.gives r p) → So (holds sheet u p)
unfolding product
role_opens {roles} {sheet} multiplies u p i j l has gives =
    sym (multiplies.cell u p i j) ∙ opened_intro roles u p roles.count l has gives

-- a role set that multiplies to the sheet classes all grants, each by the lowest role that covers it
pub role_set_classes : {roles : RoleSet} {sheet : Sheet} → Even sheet → Multiplies roles sheet
    → ClassingOf sheet (grants sheet) roles.count (covering_role roles)
role_set_classes {roles} {sheet} even multiplies =
    record {
      within = λ g m. (held_is_covered even multiplies g (grant_held sheet m)).within;
      fitting = λ g h m n e. together g h (grant_held sheet m) (grant_held sheet n) e;
    }
  where
    together : (g h : Grant) → Held sheet g → Held sheet h → covering_role roles g ≡ covering_role roles h
        → So (fits sheet g h)
    together g h p q e =
        let a = held_is_covered even multiplies g p in
        let b = held_is_covered even multiplies h q in
        let of_g = covers_elim roles g (covering_role roles g) a.holds in
        let of_h = covers_elim roles h (covering_role roles g) (rw (← e) at b.holds) in
        fits_intro sheet g h
        (role_opens multiplies g.user h.permission (even_user_below even g.user g.permission p)
        (even_permission_below even h.user h.permission q) a.within of_g.0 of_h.1)
        (role_opens multiplies h.user g.permission (even_user_below even h.user h.permission q)
        (even_permission_below even g.user g.permission p) a.within of_h.0 of_g.1)

-- ---- grants of which no two fit

-- every classing has at least as many classes as there are grants of which no two fit
pub independent_bounds_classes : (sheet : Sheet) (part all : List Grant) (count : ℕ) (class : Grant → ℕ)
    → Independent sheet part → ((g : Grant) → Memᴰ g part → Memᴰ g all) → ClassingOf sheet all count class
    → length part ≤ count
independent_bounds_classes sheet part all count class independent inside classing =
    rw (
      count_below_all_intro (length part) (λ i. true) (λ i l. refl),
      count_below_all_intro count (λ i. true)
          (λ i l. refl),
    ) at
    (count_below_injects (length part) count (λ i. true) (λ i. true) (λ i. class (grant_at part i))
    (λ i l p. classing.within (grant_at part i) (there i l)) (λ i l p. refl) (λ i j l k p q e. one i j l k e))
  where
    there : (i : ℕ) → i < length part → Memᴰ (grant_at part i) all
    there i l = inside (grant_at part i) (grant_at_member part i l)

    clash : (i j : ℕ) → i < j → j < length part → class (grant_at part i) ≡ class (grant_at part j) → ⊥
    clash i j k l e =
        not_both (classing.fitting (grant_at part i) (grant_at part j) (there i (omega arith)) (there j l) e)
        (independent.apart i j k l)

    one : (i j : ℕ) → i < length part → j < length part → class (grant_at part i) ≡ class (grant_at part j) → i ≡ j
    one i j l k e =
        ⊎_elim (λ (m : i < j). absurd (clash i j m k e))
        (λ (m : j ≤ i). ⊎_elim (λ (n : j < i). absurd (clash j i n l (sym e))) (λ (n : i ≤ j). omega arith)
        (below_or_from j i))
        (below_or_from i j)

-- and so has every role set that multiplies to the sheet
pub independent_bounds_role_sets : {roles : RoleSet} {sheet : Sheet} → Even sheet → (part : List Grant)
    → Independent sheet part → ((g : Grant) → Memᴰ g part → Memᴰ g (grants sheet)) → Multiplies roles sheet
    → length part ≤ roles.count
independent_bounds_role_sets {roles} {sheet} even part independent inside multiplies =
    independent_bounds_classes sheet part (grants sheet) roles.count (covering_role roles) independent
    inside (role_set_classes even multiplies)
