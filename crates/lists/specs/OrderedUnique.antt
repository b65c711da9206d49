-- A list in order is known by its elements: two lists with the same elements, in one order that never holds both
-- ways, are one list. The first of each stands before all others of its list, so the two first ones are one; and then
-- the rests have the same elements.
use Rattle.std.specs.Prelude.{◌≡◌, refl, ◌⊎◌}
use Rattle.std.proofs.Common.{sym, ◌∙◌, inl, inr, ⊎_elim}
use mathlib.Core.List.Memᴰ
use mathlib.Core.List.{List, [], ◌∷◌, Memᴰ}
use Rattle.lists.specs.Ordered.{Ordered}

module _ {A : Type 0} (before : A → A → Type 0) (one_way : (a b : A) → before a b → before b a → ⊥) where
  -- an element of the rest of one list stands in the rest of the other
  in_the_rest : {a b : A} (rest other : List A) → a ≡ b → Ordered before (a ∷ rest)
      → {c : A} → Memᴰ c rest → Memᴰ c (b ∷ other) → Memᴰ c other
  in_the_rest {a} {b} rest other same o {c} m n = ⊎_elim (λ e. absurd (itself (e ∙ sym same))) (λ k. k)
      (Memᴰ.cases_cons n)
    where
      itself : c ≡ a → ⊥
      itself e = let p = rw e at (o.0 c m) in one_way a a p p

  pub ordered_unique : (l k : List A) → Ordered before l → Ordered before k → ((a : A) → Memᴰ a l → Memᴰ a k)
      → ((a : A) → Memᴰ a k → Memᴰ a l) → l ≡ k
  ordered_unique [] [] o p into back = refl
  ordered_unique [] (b ∷ k) o p into back = absurd (Memᴰ.not-nil (back b (Memᴰ.head refl)))
  ordered_unique (a ∷ l) [] o p into back = absurd (Memᴰ.not-nil (into a (Memᴰ.head refl)))
  ordered_unique (a ∷ l) (b ∷ k) o p into back =
      let first : a ≡ b = same (Memᴰ.cases_cons (into a (Memᴰ.head refl)))
      (Memᴰ.cases_cons (back b (Memᴰ.head refl))) in
      let later : l ≡ k =
      ordered_unique l k o.1 p.1 (λ c m. in_the_rest l k first o m (into c (Memᴰ.tail m)))
      (λ c m. in_the_rest k l (sym first) p m (back c (Memᴰ.tail m))) in
      cc
    where
      same : (a ≡ b) ⊎ Memᴰ a k → (b ≡ a) ⊎ Memᴰ b l → a ≡ b
      same (inl e) n = e
      same (inr m) (inl e) = sym e
      same (inr m) (inr n) = absurd (one_way a b (o.0 b n) (p.0 a m))
