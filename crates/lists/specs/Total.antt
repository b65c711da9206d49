-- The total of a measure over a list, and how it follows the list: end to end and by a map. A total is at most as
-- many times the greatest measure as the list is long.
use Rattle.std.specs.Prelude.{ℕ, zero, suc, ◌+◌, ◌*◌, ◌≤◌, ◌≡◌, refl, List, [], ◌∷◌, ◌++◌, map, length}
use Rattle.std.proofs.Common.{suc-mul, not-suc-le-zero, le_of_suc-le-suc, arith, ap, length-append}
use mathlib.Core.List.Memᴰ
use Rattle.spec.specs.Vocabulary.{joined, concat}
use Rattle.lists.specs.EachLaws.{Each}

module _ {A : Type 0} where
  -- the measures of all elements, added
  abbrev pub total : (A → ℕ) → List A → ℕ
  total measure [] = 0
  total measure (a ∷ rest) = measure a + total measure rest

  pub total_append : (measure : A → ℕ) (l m : List A) → total measure (l ++ m) ≡ total measure l + total measure m
  total_append measure [] m = omega arith
  total_append measure (a ∷ l) m = omega (arith, total_append measure l m)

  -- no more than as many elements of no more than a measure each
  pub total_le : (measure : A → ℕ) (count most : ℕ) (l : List A) → length l ≤ count → Each (λ a. measure a ≤ most) l
      → total measure l ≤ count * most
  total_le measure count most [] h each = omega arith
  total_le measure zero most (a ∷ rest) h each = absurd (not-suc-le-zero h)
  total_le measure (suc count) most (a ∷ rest) h each =
      omega (
        arith,
        suc-mul count most,
        each a (Memᴰ.head refl),
        total_le measure count most rest (le_of_suc-le-suc h) (λ b m. each b (Memᴰ.tail m)),
      )

module _ {A B : Type 0} where
  pub total_map : (measure : B → ℕ) (f : A → B) (l : List A) → total measure (map f l) ≡ total (λ a. measure (f a)) l
  total_map measure f [] = refl
  total_map measure f (a ∷ rest) = ap (λ n. measure (f a) + n) (total_map measure f rest)

module _ {A : Type 0} where
  -- parts with a separator behind each are one longer than parts with a separator between each two
  pub length_joined : (s : A) (part : List A) (parts : List (List A))
      → suc (length (joined s (part ∷ parts))) ≡ total (λ (p : List A). suc (length p)) (part ∷ parts)
  length_joined s part [] = omega arith
  length_joined s part (next ∷ later) =
      rw (length-append part (s ∷ joined s (next ∷ later))) (omega (arith, length_joined s next later))

  pub length_concat_total : (parts : List (List A)) → length (concat parts) ≡ total length parts
  length_concat_total [] = refl
  length_concat_total (part ∷ later) = rw (length-append part (concat later), length_concat_total later)
