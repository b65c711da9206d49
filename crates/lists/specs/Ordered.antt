-- Lists in order by some relation: each element stands before every later one. The order of two lists one after the
-- other, and of what a test leaves, follows by induction on the first list; two places of an ordered list are in that
-- relation, so they never hold one element where the relation is strict.
use Rattle.std.specs.Prelude.{ℕ, zero, suc, ◌<◌, refl, Bool, true, false, length, get_or}
use Rattle.std.proofs.Common.{le_of_suc-le-suc, not-suc-le-zero, ⊎_elim}
use mathlib.Core.List.Memᴰ
use mathlib.Core.List.{List, [], ◌∷◌, ◌++◌, Memᴰ}
use Rattle.spec.specs.Vocabulary.{keep, filter}
use Rattle.lists.specs.TestLaws.{member_at, filter_kept}

module _ {A : Type 0} where
  -- each element stands before every later one
  abbrev pub Ordered : (A → A → Type 0) → List A → Type 0
  Ordered before [] = Unit {0}
  Ordered before (a ∷ rest) = ((b : A) → Memᴰ b rest → before a b) × Ordered before rest

  -- two places
  pub ordered_places : (before : A → A → Type 0) (l : List A) → Ordered before l
      → (i j : ℕ) (d : A) → i < j → j < length l → before (get_or l i d) (get_or l j d)
  ordered_places before [] o i j d k l = absurd (not-suc-le-zero l)
  ordered_places before (a ∷ rest) o i zero d k l = absurd (not-suc-le-zero k)
  ordered_places before (a ∷ rest) o zero (suc j) d k l = o.0 (get_or rest j d) (member_at rest j d (le_of_suc-le-suc l))
  ordered_places before (a ∷ rest) o (suc i) (suc j) d k l =
      ordered_places before rest o.1 i j d (le_of_suc-le-suc k) (le_of_suc-le-suc l)

  -- one list after another, if each element of the first stands before each of the second
  pub ordered_append : (before : A → A → Type 0) (s t : List A) → Ordered before s → Ordered before t
      → ((a b : A) → Memᴰ a s → Memᴰ b t → before a b) → Ordered before (s ++ t)
  ordered_append before [] t o p h = p
  ordered_append before (a ∷ rest) t o p h = (
    λ b m. ⊎_elim (o.0 b) (h a b (Memᴰ.head refl)) (Memᴰ.append_cases rest m),
    ordered_append before rest t o.1 p (λ b c m. h b c (Memᴰ.tail m)),
  )

  -- an element in front where a test passed, if it stands before all that follow
  pub ordered_keep : (before : A → A → Type 0) (kept : Bool) (a : A) (rest : List A)
      → ((b : A) → Memᴰ b rest → before a b)
      → Ordered before rest → Ordered before (keep kept a rest)
  ordered_keep before true a rest h o = (h, o)
  ordered_keep before false a rest h o = o

  -- what passes a test keeps the order
  pub ordered_filter : (before : A → A → Type 0) (test : A → Bool) (l : List A) → Ordered before l
      → Ordered before (filter test l)
  ordered_filter before test [] o = o
  ordered_filter before test (a ∷ rest) o =
      ordered_keep before (test a) a (filter test rest) (λ b m. o.0 b (filter_kept test rest m).member)
      (ordered_filter before test rest o.1)
