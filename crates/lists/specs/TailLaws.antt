-- A list without its first element: its elements are elements of the list, and it is one shorter. Both are cases of
-- the list, empty or not. Assumes nothing.
use Rattle.std.specs.Prelude.{suc, ◌≤◌, ◌≡◌, refl, length}
use Rattle.std.proofs.Common.{not-suc-le-zero}
use mathlib.Core.List.Memᴰ
use mathlib.Core.List.{List, [], ◌∷◌, tail, Memᴰ}

module _ {A : Type 0} where
  pub tail_member : (l : List A) {a : A} → Memᴰ a (tail l) → Memᴰ a l
  tail_member [] m = absurd (Memᴰ.not-nil m)
  tail_member (b ∷ rest) m = Memᴰ.tail m

  pub length_tail : (l : List A) → 1 ≤ length l → suc (length (tail l)) ≡ length l
  length_tail [] h = absurd (not-suc-le-zero h)
  length_tail (a ∷ rest) h = refl
