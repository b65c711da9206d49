-- What stands in parts that were joined, and what maps make of equal elements. An element of a joining is the
-- separator or stands in a part. Each law is an induction on the list. Assumes nothing.
use Rattle.std.specs.Prelude.{◌+◌, ◌≡◌, refl, ◌⊎◌, length}
use Rattle.std.proofs.Common.{sym, inl, inr, ⊎_elim, length-append}
use mathlib.Core.List.{List, [], ◌∷◌, ◌++◌, map, append_assoc, Memᴰ}
use Rattle.spec.specs.Vocabulary.{joined, concat}

module _ {A : Type 0} where
  -- a stands in some part
  pub record InPart (parts : List (List A)) (a : A) : Type 0 where
    pub part : List A
    pub member : Memᴰ part parts
    pub element : Memᴰ a part

  in_first : {part : List A} {later : List (List A)} {a : A} → Memᴰ a part → InPart (part ∷ later) a
  in_first {part} m = record { part = part; member = mathlib.Core.List.Memᴰ.head refl; element = m }

  in_later : {part : List A} {later : List (List A)} {a : A} → InPart later a → InPart (part ∷ later) a
  in_later r = record { part = r.part; member = mathlib.Core.List.Memᴰ.tail r.member; element = r.element }

  -- ---- all parts, one after the other

  -- an element of all parts stands in some part
  pub concat_element : (parts : List (List A)) {a : A} → Memᴰ a (concat parts) → InPart parts a
  concat_element [] m = absurd (mathlib.Core.List.Memᴰ.not-nil m)
  concat_element (part ∷ later) m =
      ⊎_elim (λ n. in_first n) (λ n. in_later (concat_element later n)) (mathlib.Core.List.Memᴰ.append_cases part m)

  pub concat_member : {parts : List (List A)} {part : List A} {a : A} → Memᴰ part parts → Memᴰ a part
      → Memᴰ a (concat parts)
  concat_member {parts = []} m n = absurd (mathlib.Core.List.Memᴰ.not-nil m)
  concat_member {parts = first ∷ later} {part} {a} m n =
      choose (concat_member {parts = later}) (mathlib.Core.List.Memᴰ.cases_cons m)
    where
      choose : (Memᴰ part later → Memᴰ a part → Memᴰ a (concat later)) → (part ≡ first) ⊎ Memᴰ
          part later
          → Memᴰ a (concat (first ∷ later))
      choose deeper (inl e) = mathlib.Core.List.Memᴰ.append_left (concat later) (rw e at n)
      choose deeper (inr k) = mathlib.Core.List.Memᴰ.append_right first (deeper k n)

  pub concat_append : (parts others : List (List A)) → concat (parts ++ others) ≡ concat parts ++ concat others
  concat_append [] others = refl
  concat_append (part ∷ later) others =
      rw (concat_append later others) (sym (append_assoc part (concat later) (concat others)))

  pub length_concat : (part : List A) (later : List (List A)) → length (concat (part ∷ later)) ≡ length part + length
      (concat later)
  length_concat part later = length-append part (concat later)

  -- ---- parts with a separator between each two

  -- an element of a joining is the separator or stands in some part
  pub joined_element : (s : A) (parts : List (List A)) {a : A} → Memᴰ a (joined s parts) → (a ≡ s) ⊎ InPart parts a
  joined_element s [] m = absurd (mathlib.Core.List.Memᴰ.not-nil m)
  joined_element s (part ∷ []) m = inr (in_first m)
  joined_element s (part ∷ next ∷ later) {a} m = choose (joined_element s (next ∷ later))
      (mathlib.Core.List.Memᴰ.append_cases part m)
    where
      deepen : (a ≡ s) ⊎ InPart (next ∷ later) a → (a ≡ s) ⊎ InPart (part ∷ next ∷ later) a
      deepen (inl e) = inl e
      deepen (inr r) = inr (in_later r)

      choose : (Memᴰ a (joined s (next ∷ later)) → (a ≡ s) ⊎ InPart (next ∷ later) a)
          → Memᴰ a part ⊎ Memᴰ a (s ∷ joined s (next ∷ later)) → (a ≡ s) ⊎ InPart (part ∷ next ∷ later) a
      choose deeper (inl n) = inr (in_first n)
      choose deeper (inr n) = ⊎_elim (λ e. inl e) (λ k. deepen (deeper k)) (mathlib.Core.List.Memᴰ.cases_cons n)

  -- and what stands in a part stands in the joining
  pub joined_member : (s : A) (parts : List (List A)) {part : List A} {a : A} → Memᴰ part parts → Memᴰ a part
      → Memᴰ a (joined s parts)
  joined_member s [] m n = absurd (mathlib.Core.List.Memᴰ.not-nil m)
  joined_member s (first ∷ []) {part} {a} m n =
      ⊎_elim (λ e. let k : Memᴰ a first = rw e at n in k) (λ k. absurd (mathlib.Core.List.Memᴰ.not-nil k))
      (mathlib.Core.List.Memᴰ.cases_cons m)
  joined_member s (first ∷ next ∷ later) {part} {a} m n = choose (joined_member s (next ∷ later))
      (mathlib.Core.List.Memᴰ.cases_cons m)
    where
      choose : (Memᴰ part (next ∷ later) → Memᴰ a part → Memᴰ a (joined s (next ∷ later)))
          → (part ≡ first) ⊎ Memᴰ part (next ∷ later) → Memᴰ a (joined s (first ∷ next ∷ later))
      choose deeper (inl e) = mathlib.Core.List.Memᴰ.append_left (s ∷ joined s (next ∷ later)) (rw e at n)
      choose deeper (inr k) = mathlib.Core.List.Memᴰ.append_right first (mathlib.Core.List.Memᴰ.tail (deeper k n))

-- ---- maps

module _ {A B : Type 0} where
  -- maps that agree on the elements give one list
  pub map_same : (f g : A → B) (l : List A) → ((a : A) → Memᴰ a l → f a ≡ g a) → map f l ≡ map g l
  map_same f g [] h = refl
  map_same f g (a ∷ rest) h = rw (h a (mathlib.Core.List.Memᴰ.head refl), map_same f g rest (λ b m. h b (mathlib.Core.List.Memᴰ.tail m)))

module _ {A : Type 0} where
  -- a map that leaves every element as it is leaves the list
  pub map_fixed : (f : A → A) (l : List A) → ((a : A) → Memᴰ a l → f a ≡ a) → map f l ≡ l
  map_fixed f [] h = refl
  map_fixed f (a ∷ rest) h = rw (h a (mathlib.Core.List.Memᴰ.head refl), map_fixed f rest (λ b m. h b (mathlib.Core.List.Memᴰ.tail m)))
