-- Tests over two lists one after the other, and over a list that is mapped. Each law is an induction on the first list.
use Rattle.std.specs.Prelude.{◌≡◌, refl, Bool, true, false, ◌&&◌, List, [], ◌∷◌, ◌++◌, map}
use Rattle.std.proofs.Common.{sym, ap, ◌∙◌}
use Rattle.std.proofs.Math.Bool.{and_assoc}
use Rattle.std.proofs.Math.Option.{Option, none, some}
use Rattle.spec.specs.Vocabulary.{all, keep, filter, or_later, first}

module _ {A : Type 0} where
  keep_append : (b : Bool) (a : A) (s t : List A) → keep b a s ++ t ≡ keep b a (s ++ t)
  keep_append true a s t = refl
  keep_append false a s t = refl

  pub filter_append : (test : A → Bool) (s t : List A) → filter test (s ++ t) ≡ filter test s ++ filter test t
  filter_append test [] t = refl
  filter_append test (a ∷ s) t = rw (filter_append test s t)
      (sym (keep_append (test a) a (filter test s) (filter test t)))

  pub all_append : (test : A → Bool) (l m : List A) → all test (l ++ m) ≡ (all test l && all test m)
  all_append test [] m = refl
  all_append test (a ∷ l) m = ap (λ b. test a && b) (all_append test l m)
      ∙ sym (and_assoc (test a) (all test l) (all test m))

  -- what the first list has, else what the second has
  abbrev pub or_else : Option A → Option A → Option A
  or_else (some a) later = some a
  or_else none later = later

  pub first_append : (test : A → Bool) (s t : List A) → first test (s ++ t) ≡ or_else (first test s) (first test t)
  first_append test [] t = refl
  first_append test (a ∷ s) t = rw (first_append test s t) (pick (test a))
    where
      pick : (b : Bool) → or_later b a (or_else (first test s) (first test t)) ≡ or_else (or_later b a (first test s))
          (first test t)
      pick true = refl
      pick false = refl

module _ {A B : Type 0} where
  pub map_append : (f : A → B) (l m : List A) → map f (l ++ m) ≡ map f l ++ map f m
  map_append f [] m = refl
  map_append f (a ∷ l) m = ap (λ k. f a ∷ k) (map_append f l m)

  pub filter_map : (test : B → Bool) (f : A → B) (l : List A) → filter test (map f l) ≡ map f
      (filter (λ a. test (f a)) l)
  filter_map test f [] = refl
  filter_map test f (a ∷ l) = rw (filter_map test f l) (pick (test (f a)))
    where
      pick : (b : Bool) → keep b (f a) (map f (filter (λ a. test (f a)) l)) ≡ map f
          (keep b a (filter (λ a. test (f a)) l))
      pick true = refl
      pick false = refl

  pub all_map : (test : B → Bool) (f : A → B) (l : List A) → all test (map f l) ≡ all (λ a. test (f a)) l
  all_map test f [] = refl
  all_map test f (a ∷ l) = rw (all_map test f l)

  -- what was found, mapped
  abbrev pub found_map : (A → B) → Option A → Option B
  found_map f none = none
  found_map f (some a) = some (f a)

  pub first_map : (test : B → Bool) (f : A → B) (l : List A) → first test (map f l) ≡ found_map f
      (first (λ a. test (f a)) l)
  first_map test f [] = refl
  first_map test f (a ∷ l) = rw (first_map test f l) (pick (test (f a)))
    where
      pick : (b : Bool) → or_later b (f a) (found_map f (first (λ a. test (f a)) l)) ≡ found_map f
          (or_later b a (first (λ a. test (f a)) l))
      pick true = refl
      pick false = refl
