-- The element with the least measure of a list with one more element at its end: the one found so far, unless the new
-- one has a lesser measure. So a loop finds it that keeps the best so far. An induction on the list: to take the
-- lesser of three from the left or from the right is one. Assumes nothing.
use Rattle.std.specs.Prelude.{ℕ, ◌≡◌, refl, ◌⊎◌, false, cond, List, [], ◌∷◌, ◌++◌, leb}
use Rattle.std.proofs.Common.{arith, ap, inl, inr, leb-true, leb-false, le-leb}
use Rattle.std.proofs.Math.Bool.{So}
use Rattle.std.proofs.Math.Option.{Option, none, some}
use Rattle.std.proofs.lemmas.Bool.{lt-leb}
use Rattle.spec.specs.Vocabulary.{lesser, least}
use Rattle.bits.specs.Truth.{passes_or_fails}

module _ {A : Type 0} (measure : A → ℕ) where
  -- what was found so far, unless a has a lesser measure
  abbrev pub or_lesser : Option A → A → A
  or_lesser none a = a
  or_lesser (some b) a = cond (leb (measure b) (measure a)) b a

  lesser_of_three : (x y a : A) → cond (leb (measure x) (measure (or_lesser (some y) a))) x (or_lesser (some y) a)
      ≡ or_lesser (some (cond (leb (measure x) (measure y)) x y)) a
  lesser_of_three x y a = split (passes_or_fails (leb (measure x) (measure y)))
      (passes_or_fails (leb (measure y) (measure a)))
    where
      split : So (leb (measure x) (measure y)) ⊎ (leb (measure x) (measure y) ≡ false)
          → So (leb (measure y) (measure a)) ⊎ (leb (measure y) (measure a) ≡ false)
          → cond (leb (measure x) (measure (or_lesser (some y) a))) x (or_lesser (some y) a)
          ≡ or_lesser (some (cond (leb (measure x) (measure y)) x y)) a
      split (inl p) (inl q) =
          rw (
            q,
            p,
            le-leb (measure x) (measure a) (omega (
              arith,
              leb-true (measure x) (measure y) p,
              leb-true (measure y) (measure a) q,
            )),
          )
      split (inl p) (inr q) = rw (q, p)
      split (inr p) (inl q) = rw (q, p, q)
      split (inr p) (inr q) =
          rw (
            q,
            p,
            q,
            lt-leb (measure x) (measure a) (omega (
              arith,
              leb-false (measure x) (measure y) p,
              leb-false (measure y) (measure a) q,
            )),
          )

  later_of_two : (x a : A) (found : Option A) → lesser measure x (some (or_lesser found a)) ≡ or_lesser
      (some (lesser measure x found)) a
  later_of_two x a none = refl
  later_of_two x a (some y) = lesser_of_three x y a

  pub least_last : (l : List A) (a : A) → least measure (l ++ a ∷ []) ≡ some (or_lesser (least measure l) a)
  least_last [] a = refl
  least_last (x ∷ l) a = rw (least_last l a) (ap some (later_of_two x a (least measure l)))
