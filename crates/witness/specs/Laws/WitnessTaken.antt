-- The greedy choice with more choices than grants takes no other grants: each choice drops at least the grant taken,
-- so the choices end with the grants.
use Rattle.std.specs.Prelude.{ℕ, zero, suc, ◌≤◌, ◌<◌, ◌≡◌, refl, not, ◌||◌, List, [], ◌∷◌, length}
use Rattle.std.proofs.Common.{arith, ap}
use Rattle.std.proofs.Math.Option.{none}
use Rattle.spec.specs.Vocabulary.{lesser, least}
use Rattle.spec.specs.Sheet.{Sheet, Grant, same_grant}
use Rattle.spec.specs.Fit.{fits, partners}
use Rattle.spec.specs.Witness.{fewest_partners, left_after, taken}
use Rattle.bits.specs.Truth.{or_left}
use Rattle.lists.specs.FilterLength.{filter_shorter}
use Rattle.lists.specs.LeastLaws.{least_member}
use Rattle.cells.specs.Laws.Grant.{same_grant_refl}

-- as many choices as there are grants are enough
pub taken_enough : (sheet : Sheet) (m n : ℕ) (l : List Grant) → length l ≤ m → length l ≤ n → taken sheet m l ≡ taken
    sheet n l
taken_enough sheet zero zero l h k = refl
taken_enough sheet zero (suc n) [] h k = refl
taken_enough sheet zero (suc n) (g ∷ rest) h k = absurd (omega arith)
taken_enough sheet (suc m) zero [] h k = refl
taken_enough sheet (suc m) zero (g ∷ rest) h k = absurd (omega arith)
taken_enough sheet (suc m) (suc n) [] h k = refl
taken_enough sheet (suc m) (suc n) (g ∷ rest) h k =
    ap {B = List Grant} (λ later. it ∷ later)
    (taken_enough sheet m n (left_after sheet it (g ∷ rest)) (omega (arith, shorter)) (omega (arith, shorter)))
  where
    it : Grant
    it = lesser (λ h. length (partners sheet (g ∷ rest) h)) g (least (λ h. length (partners sheet (g ∷ rest) h)) rest)

    shorter : length (left_after sheet it (g ∷ rest)) < length (g ∷ rest)
    shorter =
        filter_shorter (λ h. not (same_grant it h || fits sheet it h)) (g ∷ rest)
        (least_member (λ h. length (partners sheet (g ∷ rest) h)) g rest)
        (ap not (or_left (same_grant it it) (fits sheet it it) (same_grant_refl it)))

-- where there is none to choose none is taken
pub none_taken : (sheet : Sheet) (more : ℕ) (l : List Grant) → fewest_partners sheet l ≡ none → taken sheet more l ≡ []
none_taken sheet zero l e = refl
none_taken sheet (suc more) l e = rw e
