-- The placement that an array of class numbers holds: numbered by first appearance no class is past the grant's own
-- number, and a grant can join a class just where no member of the class is apart from it.
use Rattle.std.specs.Prelude.{ℕ, zero, suc, ◌≤◌, ◌<◌, ◌≡◌, refl, Bool, true, false, not, ◌&&◌, ◌||◌, List, eqb, length, get_or}
use Rattle.std.proofs.Common.{not-suc-le-zero, arith, ⊎_elim}
use Rattle.bits.specs.Counting.{some_below}
use Rattle.spec.specs.Cover.{used, joins}
use Rattle.bits.specs.Laws.Below.{last_or_below}
use Rattle.lists.specs.Classing.{Grown}
use Rattle.lists.specs.GrownLaws.{grown_used_le}
use Rattle.lists.specs.LatestFirst.{latest_first, latest_first_length}

-- in a placement numbered by first appearance a class number is at most the grant's own number
pub grown_class_le : (classes : List ℕ) (n : ℕ) → Grown (latest_first classes n) → {i : ℕ} → i < n
    → get_or classes i 0 ≤ i
grown_class_le classes zero g l = absurd (not-suc-le-zero l)
grown_class_le classes (suc n) g {i} l =
    ⊎_elim
    (λ e.
    let within : used (latest_first classes n) ≤ length (latest_first classes n) = grown_used_le
    (latest_first classes n)
    g.1 in
    let least : get_or classes n 0 ≤ n = omega (arith, g.0, latest_first_length classes n) in
    rw e least)
    (λ k. grown_class_le classes n g.1 k) (last_or_below l)

-- each placed grant of class c goes with grant d, or one of them is apart from it
pub joins_unless_apart : (together : ℕ → ℕ → Bool) (classes : List ℕ) (d n c : ℕ)
    → joins together d (latest_first classes n) c ≡ not (some_below n (λ i. not (together d i) && eqb (get_or classes i 0)
    c))
unfolding some_below
joins_unless_apart together classes d zero c = refl
joins_unless_apart together classes d (suc n) c =
    rw (latest_first_length classes n, joins_unless_apart together classes d n c)
    (both (eqb (get_or classes n 0) c) (together d n) (some_below n (λ i. not (together d i) && eqb (get_or classes i 0)
    c)))
  where
    both : (same fits others : Bool) → ((not same || fits) && not others) ≡ not (not fits && same || others)
    both true true others = refl
    both true false others = refl
    both false true others = refl
    both false false others = refl
