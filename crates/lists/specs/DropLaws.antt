-- What is left of a list after its first n elements: where something is left, its first element is the n-th of the
-- list, and whether all pass a test goes by that and the rest. Assumes nothing.
use Rattle.std.specs.Prelude.{ℕ, suc, ◌≤◌, ◌<◌, ◌≡◌, Bool, ◌&&◌, List, [], ◌∷◌, length, get_or, drop}
use Rattle.std.proofs.Common.{add-zero, add-one, arith, sym, ap, ◌∙◌, length-drop, drop-drop, get_or-drop, drop-cons}
use Rattle.spec.specs.Vocabulary.{all}

module _ {A : Type 0} (l : List A) (n : ℕ) where
  pub left_below : (a : A) (rest : List A) → drop n l ≡ a ∷ rest → n < length l
  left_below a rest e = omega (arith, length-drop n l, ap length e)

  pub left_first : (a d : A) (rest : List A) → drop n l ≡ a ∷ rest → get_or l n d ≡ a
  left_first a d rest e =
      let here : get_or (drop n l) 0 d ≡ get_or l n d = rw (add-zero n) at (get_or-drop n l 0 d) in
      sym here ∙ ap (λ (m : List A). get_or m 0 d) e

  pub left_rest : (a : A) (rest : List A) → drop n l ≡ a ∷ rest → drop (suc n) l ≡ rest
  left_rest a rest e =
      let here : drop 1 (drop n l) ≡ drop (suc n) l = rw (add-one n) at (drop-drop 1 n l) in
      sym here ∙ ap (λ (m : List A). drop 1 m) e

  pub none_left : drop n l ≡ [] → length l ≤ n
  none_left e = omega (arith, length-drop n l, ap length e)

module _ {A : Type 0} (l : List A) (n : ℕ) (d : A) (h : n < length l) where
  pub all_left : (test : A → Bool) → all test (drop n l) ≡ (test (get_or l n d) && all test (drop (suc n) l))
  all_left test = ap (all test) (drop-cons l n d h)
