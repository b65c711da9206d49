-- Where the machine can stand: the classes of the placed grants are numbered by first appearance, the next try is at
-- most one past the classes in use, and no more grants are placed than there are. The start is so, and each step
-- keeps it. Assumes nothing.
use Rattle.std.specs.Prelude.{ℕ, suc, ◌≤◌, List, ◌∷◌, length}
use Rattle.std.proofs.Common.{zero-le, suc-le-suc, le_of_lt}
use Rattle.spec.specs.Cover.{used}
use Rattle.spec.specs.Machine.{Kernel, State, Step, depth, start, step}
use Rattle.lists.specs.Classing.{Grown}
use Rattle.search.specs.Laws.Steps.{Stepped, placing, improving, taking_back, closing, step_cases}

pub record Admissible (kernel : Kernel) (st : State) : Type 0 where
  pub grown : Grown st.placed
  pub next_le : st.next ≤ suc (used st.placed)
  pub depth_le : depth st ≤ kernel.size

pub start_admissible : (kernel : Kernel) (first : List ℕ) → Admissible kernel (start kernel first)
start_admissible kernel first = record { grown = tt; next_le = zero-le; depth_le = zero-le }

pub step_admissible : (kernel : Kernel) (st : State) → Admissible kernel st → Admissible kernel (step kernel st).state
step_admissible kernel st s = by_cases (step_cases kernel st)
  where
    by_cases : {after : Step} → Stepped kernel st after → Admissible kernel after.state
    by_cases (placing c w not-whole) = record {
      grown = (w.used_or_next, s.grown);
      next_le = zero-le;
      depth_le =
          w.not_full;
    }
    by_cases (improving c w whole) = record {
      grown = (w.used_or_next, s.grown);
      next_le = zero-le;
      depth_le =
          w.not_full;
    }
    by_cases (taking_back a earlier e h) =
        let g : Grown (a ∷ earlier) = rw e at s.grown in
        let l : suc (length earlier) ≤ kernel.size = rw e at s.depth_le in
        record { grown = g.1; next_le = suc-le-suc g.0; depth_le = le_of_lt l }
    by_cases (closing e h) = record { grown = tt; next_le = rw e at s.next_le; depth_le = zero-le }
