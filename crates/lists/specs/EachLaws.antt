-- What holds of every element of a list, shown by how the list is made: element by element, by number, or by a map.
use Rattle.std.specs.Prelude.{ℕ, ◌<◌}
use Rattle.std.proofs.Common.{⊎_elim}
use mathlib.Core.List.Memᴰ
use mathlib.Core.List.{List, [], ◌∷◌, map, Memᴰ}
use Rattle.spec.specs.Vocabulary.{list_of}
use Rattle.lists.specs.ListOfLaws.{list_of_element}

module _ {A : Type 0} where
  -- it holds of every element
  abbrev pub Each : (A → Type 0) → List A → Type 0
  Each Holds l = (a : A) → Memᴰ a l → Holds a

  pub each_none : (Holds : A → Type 0) → Each Holds []
  each_none Holds a m = absurd (Memᴰ.not-nil m)

  pub each_first : (Holds : A → Type 0) {a : A} {rest : List A} → Holds a → Each Holds rest → Each Holds (a ∷ rest)
  each_first Holds p later b m = ⊎_elim (λ e. rw e p) (later b) (Memᴰ.cases_cons m)

  pub each_listed : (Holds : A → Type 0) (count : ℕ) (f : ℕ → A) → ((i : ℕ) → i < count → Holds (f i))
      → Each Holds (list_of count f)
  each_listed Holds count f h a m =
      let r = list_of_element count f m in rw (← r.there) (h r.place r.within)

module _ {A B : Type 0} where
  pub each_mapped : (Holds : B → Type 0) (f : A → B) (l : List A) → Each (λ a. Holds (f a)) l → Each Holds (map f l)
  each_mapped Holds f l h b m = let r = Memᴰ.of_map f l m in rw (← r.2) (h r.0 r.1)
