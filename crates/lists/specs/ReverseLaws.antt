-- Places of a list read backwards. What stands first stands last: past the places of the rest, which keep their
-- numbers.
use Rattle.std.specs.Prelude.{ℕ, ◌<◌, ◌≡◌, length, get_or}
use mathlib.Core.List.{List, [], ◌∷◌, reverse, reverse-cons}
use Rattle.std.proofs.lemmas.List.{length-reverse, get_or_at}
use Rattle.std.proofs.Math.ListN.{get_or-append}

module _ {A : Type 0} where
  pub reverse_first_is_last : (a : A) (rest : List A) (d : A) → get_or (reverse (a ∷ rest)) (length rest) d ≡ a
  reverse_first_is_last a rest d = rw (reverse-cons a rest) (get_or_at (reverse rest) a [] d (length rest)
      (length-reverse rest))

  pub reverse_rest_keeps : (a : A) (rest : List A) (d : A) {i : ℕ} → i < length rest → get_or (reverse (a ∷ rest)) i d ≡
      get_or (reverse rest) i d
  reverse_rest_keeps a rest d {i} l =
      rw (reverse-cons a rest) (get_or-append (reverse rest) (a ∷ []) d i (rw (length-reverse rest) l))
