-- Lists in which nothing stands twice. One after another with nothing in common, read backwards, or mapped one to one
-- they are such lists again. A list of distinct elements that all stand in another is no longer than that one: each
-- of its elements takes an own place there.
use Rattle.std.specs.Prelude.{ℕ, suc, ◌+◌, ◌≤◌, ◌<◌, ◌≡◌, refl, ◌⊎◌, ◌≢◌, Bool, false, ◌||◌, eqb, length}
use Rattle.std.proofs.Common.{arith, sym, ap, ◌∙◌, inl, inr, ⊎_elim, ne_eqb}
use mathlib.Core.List.Memᴰ
use mathlib.Core.List.{List, [], ◌∷◌, ◌++◌, map, reverse, reverse-cons, reverse-reverse}
use mathlib.Core.List.{Memᴰ}
use Rattle.bits.specs.Truth.{or_fails}
use Rattle.bits.specs.Counting.{count_below}
use Rattle.bits.specs.Laws.Count.{count_below_le}
use Rattle.bits.specs.Laws.CountJoin.{count_below_with}
use Rattle.lists.specs.Ordered.{Ordered, ordered_append}

module _ {A : Type 0} where
  -- each element differs from every later one
  abbrev pub Distinct : List A → Type 0
  Distinct l = Ordered ◌≢◌ l

  pub append_distinct : (l more : List A) → Distinct l → Distinct more → ((a : A) → Memᴰ a l → Memᴰ a more
      → ⊥)
      → Distinct (l ++ more)
  append_distinct l more h k apart = ordered_append ◌≢◌ l more h k (λ a b m n e. apart a m (Memᴰ.cast e n))

  -- where the order holds between no element and itself, no element stands twice
  pub ordered_distinct : (before : A → A → Type 0) (l : List A) → ((a : A) → Memᴰ a l → before a a → ⊥)
      → Ordered before l → Distinct l
  ordered_distinct before [] strict o = tt
  ordered_distinct before (a ∷ rest) strict o = (
    λ b m e. strict b (Memᴰ.tail m) (rw e at (o.0 b m)),
    ordered_distinct before rest (λ b m. strict b (Memᴰ.tail m)) o.1,
  )

  -- any two elements are one, or stand in the order, if that does not depend on which is first
  pub ordered_either : (before : A → A → Type 0) (l : List A) → ((a b : A) → before a b → before b a) → Ordered before l
      → {a b : A} → Memᴰ a l → Memᴰ b l → (a ≡ b) ⊎ before a b
  ordered_either before [] turn o m n = absurd (Memᴰ.not-nil m)
  ordered_either before (c ∷ rest) turn o {a} {b} m n =
      choose (ordered_either before rest turn o.1) (Memᴰ.cases_cons m) (Memᴰ.cases_cons n)
    where
      choose : (Memᴰ a rest → Memᴰ b rest → (a ≡ b) ⊎ before a b) → (a ≡ c) ⊎ Memᴰ a rest
          → (b ≡ c) ⊎ Memᴰ b rest
          → (a ≡ b) ⊎ before a b
      choose later (inl p) (inl q) = inl (p ∙ sym q)
      choose later (inl p) (inr k) = inr (rw p (o.0 b k))
      choose later (inr k) (inl q) = inr (turn b a (rw q (o.0 a k)))
      choose later (inr j) (inr k) = later j k

  -- ---- read backwards

  pub reverse_member : (l : List A) {a : A} → Memᴰ a l → Memᴰ a (reverse l)
  reverse_member [] m = m
  reverse_member (b ∷ rest) m =
      rw (reverse-cons b rest)
      (⊎_elim (λ e. Memᴰ.append_right (reverse rest) (Memᴰ.head e)) (λ n. Memᴰ.append_left (b ∷ [])
      (reverse_member rest n))
      (Memᴰ.cases_cons m))

  pub reverse_only : (l : List A) {a : A} → Memᴰ a (reverse l) → Memᴰ a l
  reverse_only l m = rw (reverse-reverse l) at (reverse_member (reverse l) m)

  pub reverse_distinct : (l : List A) → Distinct l → Distinct (reverse l)
  reverse_distinct [] h = tt
  reverse_distinct (a ∷ rest) h =
      rw (reverse-cons a rest)
      (append_distinct (reverse rest) (a ∷ []) (reverse_distinct rest h.1) (λ b m. absurd (Memᴰ.not-nil m), tt)
      (λ b m n. h.0 b (reverse_only rest m) (sym (Memᴰ.eq_of_singleton n))))

  -- ---- no longer than a list that has all its elements

  -- an element taken out of a list: any other element stands in what is left
  record TakenOut (a : A) (l : List A) : Type 0 where
    rest : List A
    shorter : length l ≡ suc (length rest)
    others : (b : A) → Memᴰ b l → (b ≡ a) ⊎ Memᴰ b rest

  take_out : (l : List A) {a : A} → Memᴰ a l → TakenOut a l
  take_out [] m = absurd (Memᴰ.not-nil m)
  take_out (b ∷ later) {a} m = choose (take_out later) (Memᴰ.cases_cons m)
    where
      choose : (Memᴰ a later → TakenOut a later) → (a ≡ b) ⊎ Memᴰ a later → TakenOut a (b ∷ later)
      choose find (inl e) =
          record {
            rest = later;
            shorter = refl;
            others = λ c n. ⊎_elim (λ p. inl (p ∙ sym e)) (λ p. inr p)
                (Memᴰ.cases_cons n);
          }
      choose find (inr n) =
          let r = find n in
          record {
            rest = b ∷ r.rest;
            shorter = ap suc r.shorter;
            others = λ c k.
                ⊎_elim (λ p. inr (Memᴰ.head p)) (λ p. ⊎_elim (λ q. inl q) (λ q. inr (Memᴰ.tail q))
                (r.others c p))
                (Memᴰ.cases_cons k);
          }

  -- distinct elements that all stand in another list
  pub distinct_within : (l other : List A) → Distinct l → ((a : A) → Memᴰ a l → Memᴰ a other)
      → length l ≤ length other
  distinct_within [] other h inside = omega arith
  distinct_within (a ∷ rest) other h inside =
      let r : TakenOut a other = take_out other (inside a (Memᴰ.head refl)) in
      omega (arith, r.shorter, distinct_within rest r.rest h.1 (left r))
    where
      left : (r : TakenOut a other) (b : A) → Memᴰ b rest → Memᴰ b r.rest
      left r b m =
          ⊎_elim (λ e. absurd (h.0 b m (sym e))) (λ n. n) (r.others b (inside b (Memᴰ.tail m)))

module _ {A B : Type 0} where
  -- no two elements have one image
  pub map_distinct : (f : A → B) (l : List A) → Distinct l
      → ((a b : A) → Memᴰ a l → Memᴰ b l → f a ≡ f b → a ≡ b) → Distinct (map f l)
  map_distinct f [] h one-to-one = tt
  map_distinct f (a ∷ rest) h one-to-one = (
    λ b m e.
        let r = Memᴰ.of_map f rest m in
        h.0 r.0 r.1 (one-to-one a r.0 (Memᴰ.head refl) (Memᴰ.tail r.1) (e ∙ sym r.2)),
    map_distinct f rest h.1 (λ b c m n. one-to-one b c (Memᴰ.tail m) (Memᴰ.tail n)),
  )

-- ---- numbers below a bound

-- distinct numbers of which none passes a test, and the numbers that pass it
pub distinct_outside : (n : ℕ) (test : ℕ → Bool) (l : List ℕ) → Distinct l → ((k : ℕ) → Memᴰ k l → (k < n)
    × (test k ≡ false))
    → length l + count_below n test ≤ n
distinct_outside n test [] h outside = omega (arith, count_below_le n test)
distinct_outside n test (a ∷ rest) h outside =
    let first = outside a (Memᴰ.head refl) in
    omega (
      arith,
      count_below_with n test first.0 first.1,
      distinct_outside n (λ k. test k || eqb k a) rest h.1 later,
    )
  where
    later : (k : ℕ) → Memᴰ k rest → (k < n) × ((test k || eqb k a) ≡ false)
    later k m =
        let r = outside k (Memᴰ.tail m) in
        (r.0, or_fails (test k) (eqb k a) r.1 (ne_eqb k a (λ e. h.0 k m (sym e))))
