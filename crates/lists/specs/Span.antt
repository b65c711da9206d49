-- How far it is to the first element that stops a reader, and the first part of a list that such elements end. Each
-- law is an induction on the list: at an element that stops, the part is empty and the rest follows it; any other
-- belongs to the part that follows. Assumes nothing.
use Rattle.std.specs.Prelude.{ℕ, suc, ◌≤◌, ◌<◌, ◌≡◌, refl, Bool, true, false, List, [], ◌∷◌, length, get_or, take, drop}
use Rattle.std.proofs.Common.{arith, ap, drop-cons}
use Rattle.spec.specs.Vocabulary.{cut, ended_by}

-- 0 where an element stops, else one more
abbrev pub further : Bool → ℕ → ℕ
further true n = 0
further false n = suc n

module _ {A : Type 0} where
  -- how many elements stand before the first that stops, all of them where none does
  abbrev pub span : (A → Bool) → List A → ℕ
  span stops [] = 0
  span stops (a ∷ rest) = further (stops a) (span stops rest)

  pub span_within : (stops : A → Bool) (l : List A) → span stops l ≤ length l
  span_within stops [] = omega arith
  span_within stops (a ∷ rest) = here (stops a) (span_within stops rest)
    where
      here : (t : Bool) → span stops rest ≤ length rest → further t (span stops rest) ≤ suc (length rest)
      here true h = omega arith
      here false h = omega arith

  -- one element of a list from place i on
  pub span_drop : (stops : A → Bool) (l : List A) (i : ℕ) (d : A) → i < length l
      → span stops (drop i l) ≡ further (stops (get_or l i d)) (span stops (drop (suc i) l))
  span_drop stops l i d h = ap (span stops) (drop-cons l i d h)

  -- the first part that stops end is what stands before the first stop, and the others are the parts of what follows it
  pub ended_first : (stops : A → Bool) (a : A) (rest : List A)
      → ended_by stops (a ∷ rest)
      ≡ take (span stops (a ∷ rest)) (a ∷ rest) ∷ ended_by stops (drop (suc (span stops (a ∷ rest))) (a ∷ rest))
  ended_first stops a [] = here (stops a)
    where
      here : (t : Bool) → cut t a [] ≡ take (further t 0) (a ∷ []) ∷ ended_by stops (drop (suc (further t 0)) (a ∷ []))
      here true = refl
      here false = refl
  ended_first stops a (b ∷ rest) = here (stops a) (ended_first stops b rest)
    where
      n : ℕ
      n = span stops (b ∷ rest)

      here : (t : Bool) → ended_by stops (b ∷ rest) ≡ take n (b ∷ rest) ∷ ended_by stops (drop (suc n) (b ∷ rest))
          → cut t a (ended_by stops (b ∷ rest))
          ≡ take (further t n) (a ∷ b ∷ rest) ∷ ended_by stops (drop (suc (further t n)) (a ∷ b ∷ rest))
      here true e = refl
      here false e = rw e
