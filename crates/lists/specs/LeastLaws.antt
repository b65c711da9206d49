-- The element with the least measure is an element: it is the first, or the one found later. An induction on the list.
use Rattle.std.specs.Prelude.{ℕ, refl, Bool, true, false, cond, leb}
use mathlib.Core.List.{List, [], ◌∷◌, Memᴰ}
use Rattle.spec.specs.Vocabulary.{lesser, least}

module _ {A : Type 0} where
  -- of a list that is not empty
  pub least_member : (measure : A → ℕ) (a : A) (rest : List A) → Memᴰ (lesser measure a (least measure rest))
      (a ∷ rest)
  least_member measure a [] = Memᴰ.head refl
  least_member measure a (b ∷ rest) = choose (leb (measure a) (measure later)) (least_member measure b rest)
    where
      later : A
      later = lesser measure b (least measure rest)

      choose : (less : Bool) → Memᴰ later (b ∷ rest) → Memᴰ (cond less a later) (a ∷ b ∷ rest)
      choose true m = Memᴰ.head refl
      choose false m = Memᴰ.tail m
