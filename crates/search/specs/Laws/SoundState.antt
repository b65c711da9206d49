-- The first state is sound, and a step keeps a state sound: what is placed is valid, and the best placement is a whole
-- one, valid and grown. A step joins a grant only to a class that takes it, takes grants back from the end, and copies a
-- placement as the best one only when it is whole. Assumes nothing.
use Rattle.std.specs.Prelude.{ℕ, suc, ◌≤◌, ◌≡◌, List, ◌∷◌, length}
use Rattle.std.proofs.Common.{le_refl, arith}
use Rattle.spec.specs.Cover.{used}
use Rattle.spec.specs.Machine.{Kernel, State, Step, depth, best_count, start, step, search}
use Rattle.lists.specs.Classing.{Valid, Grown}
use Rattle.lists.specs.GrownLaws.{grown_used_le}
use Rattle.search.specs.Laws.Steps.{Stepped, placing, improving, taking_back, closing, step_cases}
use Rattle.search.specs.Laws.Runs.{search_keeps}
use Rattle.search.specs.Laws.Admissible.{Admissible, start_admissible, step_admissible}

-- a placement of the whole kernel: valid, and its classes are numbered by first appearance
pub record Whole (kernel : Kernel) (placed : List ℕ) : Type 0 where
  pub size : length placed ≡ kernel.size
  pub valid : Valid kernel.fit placed
  pub grown : Grown placed

pub record SoundState (kernel : Kernel) (st : State) : Type 0 where
  pub admissible : Admissible kernel st
  pub valid : Valid kernel.fit st.placed
  pub best_whole : Whole kernel st.best
  -- with all k placed, what is placed is not better than the best
  pub whole_no_better : depth st ≡ kernel.size → best_count st ≤ used st.placed

pub sound_start : (kernel : Kernel) (first : List ℕ) → Whole kernel first → SoundState kernel (start kernel first)
sound_start kernel first w = record {
  admissible = start_admissible kernel first;
  valid = tt;
  best_whole = w;
  whole_no_better = λ e. omega (arith, grown_used_le first w.grown, w.size);
}

pub sound_step : (kernel : Kernel) (st : State) → SoundState kernel st → SoundState kernel (step kernel st).state
sound_step kernel st s = by_cases (step_cases kernel st) (step_admissible kernel st s.admissible)
  where
    by_cases : {after : Step} → Stepped kernel st after → Admissible kernel after.state
        → SoundState kernel after.state
    by_cases (placing c w unfilled) m =
        record {
          admissible = m;
          valid = (w.joining, s.valid);
          best_whole = s.best_whole;
          whole_no_better = λ e.
              absurd (unfilled e);
        }
    by_cases (improving c w full) m =
        let v : Valid kernel.fit (c ∷ st.placed) = (w.joining, s.valid) in
        record {
          admissible = m;
          valid = v;
          best_whole = record { size = full; valid = v; grown = m.grown };
          whole_no_better = λ e. le_refl (used (c ∷ st.placed));
        }
    by_cases (taking_back a earlier e h) m =
        let v : Valid kernel.fit (a ∷ earlier) = rw e at s.valid in
        let l : suc (length earlier) ≤ kernel.size = rw e at s.admissible.depth_le in
        record {
          admissible = m;
          valid = v.1;
          best_whole = s.best_whole;
          whole_no_better = λ f. absurd
              (omega (arith, f));
        }
    by_cases (closing e h) m =
        record {
          admissible = m;
          valid = tt;
          best_whole = s.best_whole;
          whole_no_better = rw e at
              s.whole_no_better;
        }

pub sound_search : (kernel : Kernel) (budget : ℕ) (st : State) → SoundState kernel st
    → SoundState kernel (search kernel budget st).state
sound_search kernel = search_keeps kernel (SoundState kernel) (λ st e. sound_step kernel st)
