-- An array of class numbers, read as a placement: the classes of its first n numbers, the latest first. A number that
-- is written past the first n changes nothing of them; one that is written at n is the latest of the first n + 1.
-- Each law is an induction on n. Assumes nothing.
use Rattle.std.specs.Prelude.{ℕ, zero, suc, ◌≤◌, ◌<◌, ◌≡◌, refl, List, [], ◌∷◌, length, get_or, set}
use Rattle.std.proofs.Common.{ap, ◌∙◌, ⊎_elim, le_refl, le_of_lt, not-suc-le-zero, arith, get_or-set_same, get_or-set_other}
use Rattle.bits.specs.Laws.Below.{last_or_below}
use Rattle.lists.specs.Classing.{class_in}
use Rattle.lists.specs.PlacementLaws.{class_in_latest, class_in_earlier}

-- the classes of the first n numbers
abbrev pub latest_first : List ℕ → ℕ → List ℕ
latest_first classes zero = []
latest_first classes (suc n) = get_or classes n 0 ∷ latest_first classes n

pub latest_first_length : (classes : List ℕ) (n : ℕ) → length (latest_first classes n) ≡ n
latest_first_length classes zero = refl
latest_first_length classes (suc n) = ap suc (latest_first_length classes n)

-- what is written later
pub latest_first_later : (classes : List ℕ) (i c n : ℕ) → n ≤ i → latest_first (set classes i c) n ≡ latest_first
    classes n
latest_first_later classes i c zero l = refl
latest_first_later classes i c (suc n) l =
    rw (get_or-set_other classes i n c 0 (omega arith), latest_first_later classes i c n (le_of_lt l))

-- what is written next
pub latest_first_next : (classes : List ℕ) (n c : ℕ) → n < length classes → latest_first (set classes n c) (suc n) ≡ c
    ∷ latest_first classes n
latest_first_next classes n c l = rw (get_or-set_same classes n c 0 l, latest_first_later classes n c n (le_refl n))

-- the class of a number
pub latest_first_class : (classes : List ℕ) (n : ℕ) {i : ℕ} → i < n → class_in (latest_first classes n) i ≡ get_or
    classes i 0
latest_first_class classes zero l = absurd (not-suc-le-zero l)
latest_first_class classes (suc n) {i} l =
    ⊎_elim
    (λ (e : i ≡ n). class_in_latest (get_or classes n 0) (latest_first classes n) (rw (latest_first_length classes n) e)
    ∙ rw e)
    (λ (k : i < n). class_in_earlier (get_or classes n 0) (latest_first classes n) (rw (latest_first_length classes n)
    k) ∙ latest_first_class classes n k)
    (last_or_below l)
