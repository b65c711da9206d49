-- What a placement is worth: its members go together class by class, and its classes are numbered by first
-- appearance. A classing says the same of any function to class numbers (biclique cover, when what goes together are
-- fitting grants).
use Rattle.std.specs.Prelude.{ℕ, ◌≤◌, ◌<◌, ◌≡◌, Bool, cond, List, [], ◌∷◌, eqb, length}
use Rattle.std.proofs.Math.Bool.{So}
use Rattle.spec.specs.Cover.{used, joins}

-- the class of number i in a placement, the latest placed first
abbrev pub class_in : List ℕ → ℕ → ℕ
class_in [] i = 0
class_in (a ∷ earlier) i = cond (eqb i (length earlier)) a (class_in earlier i)

-- each number goes together with all earlier members of its class
abbrev pub Valid : (ℕ → ℕ → Bool) → List ℕ → Type 0
Valid together [] = Unit {0}
Valid together (a ∷ earlier) = So (joins together (length earlier) earlier a) × Valid together earlier

-- each class is in use already or is the next one: classes are numbered by first appearance
abbrev pub Grown : List ℕ → Type 0
Grown [] = Unit {0}
Grown (a ∷ earlier) = (a ≤ used earlier) × Grown earlier

-- class numbers of the first n numbers, all below count, such that any two of one class go together
pub record Classing (together : ℕ → ℕ → Bool) (n count : ℕ) (class : ℕ → ℕ) : Type 0 where
  pub within : (i : ℕ) → i < n → class i < count
  pub fitting : (i j : ℕ) → j < i → i < n → class i ≡ class j → So (together i j)
