-- Two tests that agree on the members of a list leave the same of it. An induction on the list.
-- Assumes nothing.
use Rattle.std.specs.Prelude.{◌≡◌, refl, Bool}
use mathlib.Core.List.{List, [], ◌∷◌, Memᴰ}
use Rattle.spec.specs.Vocabulary.{filter}

pub filter_same : {A : Type 0} (test also : A → Bool) (l : List A) → ((a : A) → Memᴰ a l → test a ≡ also a)
    → filter test l ≡ filter also l
filter_same test also [] h = refl
filter_same test also (a ∷ rest) h =
    rw (h a (Memᴰ.head refl), filter_same test also rest (λ b m. h b (Memᴰ.tail m)))
