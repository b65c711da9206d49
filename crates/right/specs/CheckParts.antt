-- The checker's tests say what they should. The counts test passes exactly where the counts agree as the state asks,
-- the product test where every cell of the product is the sheet's, and the witness test where every grant is held and
-- no two on different lines fit.
use Rattle.std.specs.Prelude.{ℕ, zero, suc, ◌<◌, ◌≡◌, refl, Bool, false, not, eqb, ltb, length}
use Rattle.std.proofs.Common.{not-suc-le-zero, le_of_suc-le-suc, arith, eqb-true, eq-eqb, ltb-true, lt-ltb}
use Rattle.std.proofs.Math.Bool.{So}
use Rattle.std.specs.Bool.{beq}
use mathlib.Core.List.{List, [], ◌∷◌, Memᴰ}
use Rattle.spec.specs.Vocabulary.{every_below, any, all}
use Rattle.spec.specs.Sheet.{Sheet, Grant, user_count, permission_count, holds, held}
use Rattle.spec.specs.Fit.{fits}
use Rattle.spec.specs.Cover.{grant_at}
use Rattle.spec.specs.RoleSet.{RoleSet, product, Multiplies}
use Rattle.spec.specs.Roles.{Standing, witnessed, searched, unsettled}
use Rattle.spec.specs.Book.{Said}
use Rattle.spec.specs.Right.{BoundAgrees, CountsAgree, WitnessStands}
use Rattle.spec.specs.Refusal.{bound_agrees, counts_agree, product_agrees, some_fit, witness_agrees}
use Rattle.bits.specs.Truth.{and_intro, and_left, and_right, or_fails, or_fails_left, or_fails_right, not_passes}
use Rattle.bits.specs.Truth.{not_fails, beq_same, beq_refl}
use Rattle.bits.specs.Laws.Below.{every_below_intro, every_below_elim}
use Rattle.lists.specs.TestLaws.{all_intro, all_elim, none_intro, none_elim, member_at, place_of}

-- ---- the counts

bound_agrees_elim : (s : Standing) (bound roles lines : ℕ) → So (bound_agrees s bound roles lines)
    → BoundAgrees s bound roles lines
bound_agrees_elim witnessed bound roles lines e = (
  eqb-true bound roles (and_left (eqb bound roles) (eqb roles lines) e),
  eqb-true roles lines
      (and_right (eqb bound roles) (eqb roles lines) e),
)
bound_agrees_elim searched bound roles lines e = (
  eqb-true bound roles (and_left (eqb bound roles) (ltb lines roles) e),
  ltb-true lines roles
      (and_right (eqb bound roles) (ltb lines roles) e),
)
bound_agrees_elim unsettled bound roles lines e = (
  eqb-true bound lines (and_left (eqb bound lines) (ltb lines roles) e),
  ltb-true lines roles
      (and_right (eqb bound lines) (ltb lines roles) e),
)

bound_agrees_intro : (s : Standing) (bound roles lines : ℕ) → BoundAgrees s bound roles lines
    → So (bound_agrees s bound roles lines)
bound_agrees_intro witnessed bound roles lines b =
    and_intro (eqb bound roles) (eqb roles lines) (eq-eqb bound roles b.0) (eq-eqb roles lines b.1)
bound_agrees_intro searched bound roles lines b =
    and_intro (eqb bound roles) (ltb lines roles) (eq-eqb bound roles b.0) (lt-ltb lines roles b.1)
bound_agrees_intro unsettled bound roles lines b =
    and_intro (eqb bound lines) (ltb lines roles) (eq-eqb bound lines b.0) (lt-ltb lines roles b.1)

pub counts_agree_elim : (book : Said) → So (counts_agree book) → CountsAgree book
unfolding counts_agree
counts_agree_elim book e =
    record {
      roles = eqb-true book.count book.roles.count (search (and_left));
      bound =
          bound_agrees_elim book.standing book.bound book.roles.count (length book.witness)
          (search (and_right));
    }

pub counts_agree_intro : (book : Said) → CountsAgree book → So (counts_agree book)
unfolding counts_agree
counts_agree_intro book c =
    let roles = eq-eqb book.count book.roles.count c.roles in
    let bound =
    bound_agrees_intro book.standing book.bound book.roles.count (length book.witness) c.bound in
    search and_intro

-- ---- the product

-- the test of a cell, and of a row
cell_agrees : Sheet → RoleSet → ℕ → ℕ → Bool
cell_agrees sheet roles u p = beq (product roles u p) (holds sheet u p)

row_agrees : Sheet → RoleSet → ℕ → Bool
unfolding cell_agrees
row_agrees sheet roles u = every_below (permission_count sheet) (cell_agrees sheet roles u)

pub product_agrees_elim : (sheet : Sheet) (roles : RoleSet) → So (product_agrees sheet roles) → Multiplies roles sheet
unfolding product_agrees cell_agrees row_agrees
product_agrees_elim sheet roles e =
    record {
      cell = λ u p h k.
          beq_same (product roles u p) (holds sheet u p)
          (every_below_elim (permission_count sheet) (cell_agrees sheet roles u)
          (every_below_elim (user_count sheet) (row_agrees sheet roles) e h) k);
    }

pub product_agrees_intro : (sheet : Sheet) (roles : RoleSet) → Multiplies roles sheet → So (product_agrees sheet roles)
unfolding product_agrees cell_agrees row_agrees
product_agrees_intro sheet roles m =
    every_below_intro (user_count sheet) (row_agrees sheet roles) (λ u h.
    every_below_intro (permission_count sheet) (cell_agrees sheet roles u) (λ p k.
    rw (m.cell u p h k) (beq_refl (holds sheet u p))))

-- ---- the witness

-- no two grants of a list on different places fit
abbrev pub NoneFit : Sheet → List Grant → Type 0
NoneFit sheet grants =
    (i j : ℕ) → i < j → j < length grants → fits sheet (grant_at grants i) (grant_at grants j) ≡ false

some_fit_elim : (sheet : Sheet) (grants : List Grant) → some_fit sheet grants ≡ false → NoneFit sheet grants
some_fit_elim sheet [] e i j h k = absurd (not-suc-le-zero k)
some_fit_elim sheet (g ∷ later) e i zero h k = absurd (not-suc-le-zero h)
some_fit_elim sheet (g ∷ later) e zero (suc j) h k =
    none_elim (fits sheet g) later (or_fails_left (any (fits sheet g) later) (some_fit sheet later) e)
    (member_at later j (record { user = 0; permission = 0 }) (le_of_suc-le-suc k))
some_fit_elim sheet (g ∷ later) e (suc i) (suc j) h k =
    some_fit_elim sheet later (or_fails_right (any (fits sheet g) later) (some_fit sheet later) e) i j
    (le_of_suc-le-suc h)
    (le_of_suc-le-suc k)

some_fit_intro : (sheet : Sheet) (grants : List Grant) → NoneFit sheet grants → some_fit sheet grants ≡ false
some_fit_intro sheet [] h = refl
some_fit_intro sheet (g ∷ later) h =
    or_fails (any (fits sheet g) later) (some_fit sheet later) (none_intro (fits sheet g) later apart)
    (some_fit_intro sheet later (λ i j k l. h (suc i) (suc j) (omega arith) (omega arith)))
  where
    apart : (other : Grant) → Memᴰ other later → fits sheet g other ≡ false
    apart other m =
        let r = place_of later (record { user = 0; permission = 0 }) m in
        rw r.there at (h 0 (suc r.place) (omega arith) (omega (arith, r.within)))

pub witness_stands_elim : (sheet : Sheet) (grants : List Grant) → So (witness_agrees sheet grants)
    → WitnessStands sheet grants
unfolding witness_agrees
witness_stands_elim sheet grants e =
    record {
      all_held = λ g m. all_elim (held sheet) grants (and_left (all (held sheet) grants) (not (some_fit sheet grants))
          e) m;
      none_fit =
          some_fit_elim sheet grants
          (not_fails (some_fit sheet grants) (and_right (all (held sheet) grants) (not (some_fit sheet grants)) e));
    }

pub witness_stands_intro : (sheet : Sheet) (grants : List Grant) → WitnessStands sheet grants
    → So (witness_agrees sheet grants)
unfolding witness_agrees
witness_stands_intro sheet grants s =
    and_intro (all (held sheet) grants) (not (some_fit sheet grants)) (all_intro (held sheet) grants s.all_held)
    (not_passes (some_fit sheet grants) (some_fit_intro sheet grants s.none_fit))
