-- The list f 0, f 1, .. f (count - 1): its length, its elements, and when two such lists are one. Each law is an
-- induction on the count, over the numbers from i on. Assumes nothing.
use Rattle.std.specs.Prelude.{ℕ, zero, suc, ◌+◌, ◌≤◌, ◌<◌, ◌≡◌, refl, length, get_or}
use Rattle.std.proofs.Common.{not-suc-le-zero, le_of_suc-le-suc, add-zero, zero-add, arith, sym, ap, ◌∙◌, ext_get_or}
use mathlib.Core.List.Memᴰ
use mathlib.Core.List.{List, [], ◌∷◌, ◌++◌, map, Memᴰ}
use Rattle.spec.specs.Vocabulary.{list_from, list_of}
use Rattle.lists.specs.TestLaws.{member_at, place_of}

module _ {A : Type 0} where
  pub length_list_from : (i count : ℕ) (f : ℕ → A) → length (list_from i count f) ≡ count
  length_list_from i zero f = refl
  length_list_from i (suc count) f = ap suc (length_list_from (suc i) count f)

  pub getD_list_from : (i count : ℕ) (f : ℕ → A) (j : ℕ) (d : A) → j < count → get_or (list_from i count f) j d ≡ f
      (i + j)
  getD_list_from i zero f j d h = absurd (not-suc-le-zero h)
  getD_list_from i (suc count) f zero d h = rw add-zero
  getD_list_from i (suc count) f (suc j) d h =
      getD_list_from (suc i) count f j d (le_of_suc-le-suc h) ∙ ap f (omega arith)

  pub list_from_same : (i count : ℕ) (f g : ℕ → A) → ((j : ℕ) → i ≤ j → j < i + count → f j ≡ g j)
      → list_from i count f ≡ list_from i count g
  list_from_same i zero f g h = refl
  list_from_same i (suc count) f g h =
      rw (
        h i (omega arith) (omega arith),
        list_from_same (suc i) count f g (λ j low high. h j (omega arith)
            (omega arith)),
      )

  pub list_from_shift : (i count : ℕ) (f : ℕ → A) → list_from (suc i) count f ≡ list_from i count (λ j. f (suc j))
  list_from_shift i zero f = refl
  list_from_shift i (suc count) f = ap {B = List A} (λ rest. f (suc i) ∷ rest) (list_from_shift (suc i) count f)

  pub list_from_last : (i count : ℕ) (f : ℕ → A) → list_from i (suc count) f ≡ list_from i count f ++ f (i + count) ∷ []
  list_from_last i zero f = rw add-zero
  list_from_last i (suc count) f =
      let e : suc i + count ≡ i + suc count = omega arith in
      ap {B = List A} (λ rest. f i ∷ rest) (list_from_last (suc i) count f ∙ rw e)

  -- ---- from 0 on

  pub length_list_of : (count : ℕ) (f : ℕ → A) → length (list_of count f) ≡ count
  length_list_of = length_list_from zero

  -- the element at a place below the count is f of the place
  pub getD_list_of : (count : ℕ) (f : ℕ → A) (i : ℕ) (d : A) → i < count → get_or (list_of count f) i d ≡ f i
  getD_list_of count f i d h = getD_list_from zero count f i d h ∙ ap f (zero-add i)

  -- two such lists are one where f and g agree below the count
  pub list_of_same : (count : ℕ) (f g : ℕ → A) → ((i : ℕ) → i < count → f i ≡ g i) → list_of count f ≡ list_of count g
  list_of_same count f g h = list_from_same zero count f g (λ j low high. h j (omega arith))

  -- the first apart
  pub list_of_first : (count : ℕ) (f : ℕ → A) → list_of (suc count) f ≡ f 0 ∷ list_of count (λ i. f (suc i))
  list_of_first count f = ap {B = List A} (λ rest. f 0 ∷ rest) (list_from_shift zero count f)

  -- the last apart
  pub list_of_last : (count : ℕ) (f : ℕ → A) → list_of (suc count) f ≡ list_of count f ++ f count ∷ []
  list_of_last count f = list_from_last zero count f ∙ rw (zero-add count)

  -- a list is the list of its elements by their places
  pub list_of_places : (l : List A) (d : A) → list_of (length l) (λ i. get_or l i d) ≡ l
  list_of_places l d =
      ext_get_or d (list_of (length l) (λ i. get_or l i d)) l (length_list_of (length l) (λ i. get_or l i d))
      (λ i h. getD_list_of (length l) (λ j. get_or l j d) i d (rw length_list_of at h))

  -- f of each number below the count is in the list
  pub list_of_member : (count : ℕ) (f : ℕ → A) (i : ℕ) → i < count → Memᴰ (f i) (list_of count f)
  list_of_member count f i h =
      Memᴰ.cast (sym (getD_list_of count f i (f i) h))
      (member_at (list_of count f) i (f i) (let e = length_list_of count f in omega arith))

  -- an element of the list is f of a number below the count
  pub record ListedAt (count : ℕ) (f : ℕ → A) (a : A) : Type 0 where
    pub place : ℕ
    pub within : place < count
    pub there : f place ≡ a

  -- and only those
  pub list_of_element : (count : ℕ) (f : ℕ → A) {a : A} → Memᴰ a (list_of count f) → ListedAt count f a
  list_of_element count f {a} m =
      let r = place_of (list_of count f) a m in
      let within : r.place < count = (let e = length_list_of count f in omega (arith, r.within)) in
      record { place = r.place; within = within; there = sym (getD_list_of count f r.place a within) ∙ r.there }

module _ {A B : Type 0} where
  pub map_list_from : (g : A → B) (i count : ℕ) (f : ℕ → A) → map g (list_from i count f) ≡ list_from i count
      (λ j. g (f j))
  map_list_from g i zero f = refl
  map_list_from g i (suc count) f = ap {B = List B} (λ rest. g (f i) ∷ rest) (map_list_from g (suc i) count f)

  pub map_list_of : (g : A → B) (count : ℕ) (f : ℕ → A) → map g (list_of count f) ≡ list_of count (λ i. g (f i))
  map_list_of g count f = map_list_from g zero count f
