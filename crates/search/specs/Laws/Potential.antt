-- A number that bounds the steps left at a position of the machine: two for each placing that can still come, one for
-- each grant to be taken back, and one to close. At the start it is the sum of factorials that the budget must reach;
-- one turn of the recurrence of factorials is one level of the search. Assumes nothing.
use Rattle.std.specs.Prelude.{ℕ, zero, suc, ◌+◌, ◌-◌, ◌*◌, ◌≤◌, ◌<◌, ◌≡◌, refl, List, [], ◌∷◌, length}
use Rattle.std.proofs.Common.{ap, ◌∙◌, zero-add, add-zero, mul-zero, mul_left_comm, mul-le-mul_right, le-add_left, arith}
use Rattle.std.proofs.Math.Nat.{sub-zero}
use Rattle.spec.specs.Machine.{Kernel, State, depth, start}
use Rattle.spec.specs.Sequence.{factorial, factorials, enough}

-- the most placings that can come from depth d with all classes 0 .. d to try, where rest grants are not placed
abbrev pub placings : ℕ → ℕ → ℕ
placings d zero = 0
placings d (suc rest) = suc d * suc (placings (suc d) rest)

-- the most steps that can come at depth d and deeper with the classes t .. d to try, until nothing is left to try there
abbrev pub steps_ahead : ℕ → ℕ → ℕ → ℕ
steps_ahead d zero t = 0
steps_ahead d (suc rest) t = (suc d - t) * (2 * suc (placings (suc d) rest))

-- the most steps that can come once the latest placed grant is to be taken back, the closing step included
abbrev pub steps_back : ℕ → List ℕ → ℕ
steps_back rest [] = 1
steps_back rest (a ∷ earlier) = suc (steps_ahead (length earlier) (suc rest) (suc a) + steps_back (suc rest) earlier)

-- the most steps that can come from a position, with rest grants not placed
abbrev pub potential_of : ℕ → List ℕ → ℕ → ℕ
potential_of rest placed t = steps_ahead (length placed) rest t + steps_back rest placed

-- the same of a state
abbrev pub potential : Kernel → State → ℕ
potential kernel st = potential_of (kernel.size - depth st) st.placed st.next

-- ---- the start

-- the steps with all classes to try
pub steps_ahead_all : (d rest : ℕ) → steps_ahead d rest 0 ≡ 2 * placings d rest
steps_ahead_all d zero = refl
steps_ahead_all d (suc rest) = rw sub-zero (mul_left_comm (suc d) 2 (suc (placings (suc d) rest)))

-- from depth d on, each placing stands for d! of the sum of factorials
pub placings_factorials : (d rest : ℕ) → factorial d * placings d rest + factorials d ≡ factorials (d + rest)
placings_factorials d zero = rw (mul-zero, zero-add, add-zero)
placings_factorials d (suc rest) =
    let same : suc d + rest ≡ d + suc rest = omega arith in
    one_level (factorial d) (factorials d) (placings (suc d) rest) ∙ placings_factorials (suc d) rest
    ∙ ap factorials same
  where
    one_level : (product sum below : ℕ) → product * (suc d * suc below) + sum ≡ suc d * product * below +
        (sum + suc d * product)
    one_level product sum below = omega arith

-- the potential at the start is the budget that is enough
pub potential_start : (kernel : Kernel) (first : List ℕ) → potential kernel (start kernel first) ≡ enough kernel.size
potential_start kernel first =
    let k = kernel.size in
    let all : 1 * placings 0 k + 0 ≡ factorials k = rw zero-add at (placings_factorials 0 k) in
    rw (sub-zero, steps_ahead_all 0 k) (omega arith)

-- ---- the steps

-- one class fewer to try is worth more than what a placing in it opens
one_class_less : (less more below back : ℕ) → less < more
    → 2 * below + suc (less * (2 * suc below) + back) < more * (2 * suc below) + back
one_class_less less more below back l = omega (arith, mul-le-mul_right (2 * suc below) l)

-- a placing in class c uses up the classes up to c, and opens all classes one deeper
pub placing_lowers : (rest : ℕ) (placed : List ℕ) (t c : ℕ) → t ≤ c → c ≤ length placed
    → potential_of rest (c ∷ placed) 0 < potential_of (suc rest) placed t
placing_lowers rest placed t c p q =
    let d = length placed in
    rw (steps_ahead_all (suc d) rest)
    (one_class_less (suc d - suc c) (suc d - t) (placings (suc d) rest) (steps_back (suc rest) placed) (omega arith))

-- a taking back leaves what was left to try before it
pub taking_back_lowers : (rest : ℕ) (a : ℕ) (earlier : List ℕ) (t : ℕ)
    → potential_of (suc rest) earlier (suc a) < potential_of rest (a ∷ earlier) t
taking_back_lowers rest a earlier t =
    le-add_left (suc (potential_of (suc rest) earlier (suc a))) (steps_ahead (suc (length earlier)) rest t)

-- the closing step is always left
pub potential_positive : (rest : ℕ) (placed : List ℕ) (t : ℕ) → 1 ≤ potential_of rest placed t
potential_positive rest [] t = omega arith
potential_positive rest (a ∷ earlier) t = omega arith
