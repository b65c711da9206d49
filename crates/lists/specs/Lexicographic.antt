-- The lexicographic order of lists of numbers: no list stands before itself, and what stands before a list stands
-- before all that follow it. Each law is an induction along the lists, place by place. Assumes nothing.
use Rattle.std.specs.Prelude.{ℕ, ◌<◌, ◌≡◌, refl, ◌⊎◌}
use Rattle.std.proofs.Common.{◌∙◌, inl, inr, arith}
use mathlib.Core.List.{List, [], ◌∷◌, ◌++◌, reverse_aux}

-- at the first place where they differ x has the lesser number, or x ends there
abbrev pub Before : List ℕ → List ℕ → Type 0
Before x [] = ⊥
Before [] (b ∷ y) = Unit {0}
Before (a ∷ x) (b ∷ y) = (a < b) ⊎ ((a ≡ b) × Before x y)

pub before_irreflexive : (x : List ℕ) → Before x x → ⊥
before_irreflexive [] p = p
before_irreflexive (a ∷ x) (inl l) = omega arith
before_irreflexive (a ∷ x) (inr p) = before_irreflexive x p.1

pub before_trans : (x y z : List ℕ) → Before x y → Before y z → Before x z
before_trans x y [] p q = q
before_trans x [] (c ∷ z) p q = absurd p
before_trans [] (b ∷ y) (c ∷ z) p q = tt
before_trans (a ∷ x) (b ∷ y) (c ∷ z) (inl l) (inl m) = inl (omega arith)
before_trans (a ∷ x) (b ∷ y) (c ∷ z) (inl l) (inr q) = inl (rw q.0 at l)
before_trans (a ∷ x) (b ∷ y) (c ∷ z) (inr p) (inl m) = inl (rw p.0 m)
before_trans (a ∷ x) (b ∷ y) (c ∷ z) (inr p) (inr q) = inr (p.0 ∙ q.0, before_trans x y z p.1 q.1)

-- what stands before, stands before after the same beginning
pub before_reverse : (beginning x y : List ℕ) → Before x y → Before (reverse_aux beginning x) (reverse_aux beginning y)
before_reverse [] x y p = p
before_reverse (a ∷ earlier) x y p = before_reverse earlier (a ∷ x) (a ∷ y) (inr (refl, p))

-- a 0 at the end of both changes nothing
pub before_end : (x y : List ℕ) → Before (x ++ 0 ∷ []) (y ++ 0 ∷ []) → Before x y
before_end [] [] p = before_irreflexive (0 ∷ []) p
before_end (a ∷ x) [] (inl l) = omega arith
before_end (a ∷ x) [] (inr p) = p.1
before_end [] (b ∷ y) p = tt
before_end (a ∷ x) (b ∷ y) (inl l) = inl l
before_end (a ∷ x) (b ∷ y) (inr p) = inr (p.0, before_end x y p.1)
