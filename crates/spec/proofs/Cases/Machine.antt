-- Kernels on which a slip of the machine would give another answer, computed from the definitions. The first has ten
-- grants. Step 14 finds a placement of five classes. In step 17 the eight grants placed use five classes, so that none
-- is left, though the next grant fits class 2 and 2 + 1 is below the new count: a machine that holds only c + 1 below
-- it, and not the classes in use, places there.
use Rattle.spec.specs.Vocabulary.{ℕ, suc, Bool, true, false, not, cond, List, [], map, eqb}
use Rattle.spec.specs.Vocabulary.{ltb, get_or, lowest_below, any}
use Rattle.std.specs.Prelude.{◌≡◌, refl, ◌/◌, ◌%◌, ◌&&◌, ◌∷◌}
use Rattle.spec.specs.Machine.{Kernel, State, Kinds, Ran, start, run, search, depth}

-- with which of the kernel each grant fits
fitting : List (List ℕ)
fitting =
    (0 ∷ 3 ∷ 6 ∷ 8 ∷ [])
    ∷ (1 ∷ 3 ∷ 8 ∷ 9 ∷ [])
    ∷ (2 ∷ 3 ∷ 7 ∷ 8 ∷ 9 ∷ [])
    ∷ (0 ∷ 1 ∷ 2 ∷ 3 ∷ 5 ∷ [])
    ∷ (4 ∷ 5 ∷ 6 ∷ 8 ∷ [])
    ∷ (3 ∷ 4 ∷ 5 ∷ [])
    ∷ (0 ∷ 4 ∷ 6 ∷ 7 ∷ [])
    ∷ (2 ∷ 6 ∷ 7 ∷ [])
    ∷ (0 ∷ 1 ∷ 2 ∷ 4 ∷ 8 ∷ [])
    ∷ (1 ∷ 2 ∷ 9 ∷ [])
    ∷ []

kernel : Kernel
unfolding fitting
kernel = record { size = 10; fit = λ i j. any (eqb j) (get_or fitting i []); singles = 0; witness = 4 }

-- a first placement of six classes, the latest grant first
first : List ℕ
first = 5 ∷ 1 ∷ 2 ∷ 4 ∷ 3 ∷ 3 ∷ 0 ∷ 2 ∷ 1 ∷ 0 ∷ []

-- where a search stands: steps made, and how many of them placed, took back and closed; depth, best placement, finished
record Stand : Type 0 where
  steps : ℕ
  kinds : Kinds
  depth : ℕ
  best : List ℕ
  finished : Bool

stand_of : Ran → Stand
stand_of ran =
    record {
      steps = ran.steps;
      kinds = ran.kinds;
      depth = depth ran.state;
      best = ran.state.best;
      finished = ran.state.finished;
    }

stand : ℕ → Stand
unfolding run kernel first stand_of
stand budget = stand_of (run kernel budget (start kernel first))

-- what some steps were: placed, took back, closed
kinds : ℕ → ℕ → ℕ → Kinds
kinds placed taken_back closed = record { placed = placed; taken_back = taken_back; closed = closed }

-- the better placement
better : List ℕ
better = 2 ∷ 1 ∷ 4 ∷ 4 ∷ 3 ∷ 3 ∷ 0 ∷ 2 ∷ 1 ∷ 0 ∷ []

cases : map stand (0 ∷ 1 ∷ 13 ∷ 14 ∷ 17 ∷ 44 ∷ 100 ∷ [])
    ≡ record { steps = 0; kinds = kinds 0 0 0; depth = 0; best = first; finished = false }
    ∷ record { steps = 1; kinds = kinds 1 0 0; depth = 1; best = first; finished = false }
    ∷ record { steps = 13; kinds = kinds 11 2 0; depth = 9; best = first; finished = false }
    ∷ record { steps = 14; kinds = kinds 12 2 0; depth = 10; best = better; finished = false }
    ∷ record { steps = 17; kinds = kinds 12 5 0; depth = 7; best = better; finished = false }
    ∷ record { steps = 44; kinds = kinds 22 22 0; depth = 0; best = better; finished = false }
    ∷ record { steps = 45; kinds = kinds 22 22 1; depth = 0; best = better; finished = true }
    ∷ []
unfolding stand kinds first better lowest_below
cases = refl

-- from step 14 on: three steps that all take back, so that the depth gained is below the start; and one that closes,
-- the last of 31. A finished machine answers zeros
kinds_of : Ran → Kinds
kinds_of ran = ran.kinds

later_kinds : map (λ budget. kinds_of (run kernel budget (run kernel 14 (start kernel first)).state))
    (3 ∷ 30 ∷ 31 ∷ [])
    ≡ kinds 0 3 0 ∷ kinds 10 20 0 ∷ kinds 10 20 1 ∷ []
unfolding run kernel first kinds kinds_of lowest_below
later_kinds = refl

finished_kinds : kinds_of (run kernel 5 (run kernel 45 (start kernel first)).state) ≡ kinds 0 0 0
unfolding run kernel first kinds kinds_of lowest_below
finished_kinds = refl

-- the search of four users each lacking only their own permission, from a class for each user: it closes in step 125,
-- with 62 placed and 62 taken back; cut into searches of 50 steps, the counts of the parts add up to those, and a
-- fourth of the finished machine has zeros
crown_user : ℕ → ℕ
crown_user g = g / 3

crown_permission : ℕ → ℕ
unfolding crown_user
crown_permission g = cond (ltb (g % 3) (crown_user g)) (g % 3) (suc (g % 3))

crown : Kernel
unfolding crown_user crown_permission
crown =
    record {
      size = 12;
      fit = λ g h.
          not (eqb (crown_user g) (crown_permission h)) && not (eqb (crown_user h) (crown_permission g));
      singles = 0;
      witness = 3;
    }

by_user : List ℕ
by_user = 3 ∷ 3 ∷ 3 ∷ 2 ∷ 2 ∷ 2 ∷ 1 ∷ 1 ∷ 1 ∷ 0 ∷ 0 ∷ 0 ∷ []

-- searches of some budgets, each from where the one before came to, and what their steps were
kinds_in_turn : List ℕ → State → List Kinds
unfolding search crown
kinds_in_turn [] st = []
kinds_in_turn (budget ∷ later) st =
    let ran : Ran = search crown budget st in
    ran.kinds ∷ kinds_in_turn later ran.state

crown_kinds : map (λ budgets. kinds_in_turn budgets (start crown by_user))
    ((124 ∷ []) ∷ (125 ∷ []) ∷ (50 ∷ 50 ∷ 50 ∷ 50 ∷ []) ∷ [])
    ≡ (kinds 62 62 0 ∷ [])
    ∷ (kinds 62 62 1 ∷ [])
    ∷ (kinds 26 24 0 ∷ kinds 27 23 0 ∷ kinds 9 15 1 ∷ kinds 0 0 0 ∷ [])
    ∷ []
unfolding kinds_in_turn crown by_user kinds lowest_below
crown_kinds = refl

-- two grants that fit, first in two classes, with one single and w = 2: one class of both and the single reach w, so
-- the second step finishes; it places, and closes nothing
pair : ℕ → Kernel
pair size = record { size = size; fit = λ i j. true; singles = 1; witness = 2 }

apart : List ℕ
apart = 1 ∷ 0 ∷ []

finishes : stand_of (search (pair 2) 10 (start (pair 2) apart)) ≡ record {
  steps = 2;
  kinds = kinds 2 0 0;
  depth = 2;
  best = 0 ∷ 0 ∷ [];
  finished = true;
}
unfolding search pair apart stand_of kinds lowest_below
finishes = refl

-- a kernel of 128 is searched, one of 129 is not, and nothing is counted of it
searched : map (λ size. stand_of (search (pair size) 1 (start (pair size) apart))) (128 ∷ 129 ∷ [])
    ≡ record { steps = 1; kinds = kinds 1 0 0; depth = 1; best = apart; finished = false }
    ∷ record { steps = 0; kinds = kinds 0 0 0; depth = 0; best = apart; finished = false }
    ∷ []
unfolding search pair apart stand_of kinds lowest_below
searched = refl

-- one grant, first in one class, with w = 0: no class is below that count, so the first step closes
closes_at_once : stand_of (search (record { size = 1; fit = λ i j. true; singles = 0; witness = 0 }) 10
    (start (record { size = 1; fit = λ i j. true; singles = 0; witness = 0 }) (0 ∷ [])))
    ≡ record { steps = 1; kinds = kinds 0 0 1; depth = 0; best = 0 ∷ []; finished = true }
unfolding search stand_of kinds lowest_below
closes_at_once = refl
