-- A map that keeps an order takes a list in the one order to a list in the other.
use mathlib.Core.List.Memᴰ
use Rattle.std.specs.Prelude.{List, [], ◌∷◌, map}
use Rattle.lists.specs.Ordered.{Ordered}

module _ {A B : Type 0} where
  pub ordered_map : (before : A → A → Type 0) (after : B → B → Type 0) (f : A → B)
      → ((a b : A) → before a b → after (f a) (f b))
      → (l : List A) → Ordered before l → Ordered after (map f l)
  ordered_map before after f keeps [] o = tt
  ordered_map before after f keeps (a ∷ l) o = (
    λ b m. let r = Memᴰ.of_map f l m in rw r.2 at (keeps a r.0 (o.0 r.0 r.1)),
    ordered_map before after f keeps l o.1,
  )
