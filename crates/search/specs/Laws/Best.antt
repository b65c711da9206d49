-- The best placement never gets worse. A step changes it only where it fills the placement, and then every class it
-- could use was below the best count; so a step keeps the best or puts one with fewer classes in its place. Assumes
-- nothing.
use Rattle.std.specs.Prelude.{ℕ, ◌≤◌, ◌<◌, ◌≡◌, refl, ◌⊎◌}
use Rattle.std.proofs.Common.{ap, inl, inr, ⊎_elim, le_refl, le_of_eq, le_of_lt, le_trans, arith}
use Rattle.spec.specs.Cover.{used}
use Rattle.spec.specs.Machine.{Kernel, State, Step, depth, best_count, step, search}
use Rattle.search.specs.Laws.Steps.{Stepped, placing, improving, taking_back, closing, step_cases}
use Rattle.search.specs.Laws.Runs.{search_keeps}

-- the whole placement was copied as the best one, and has fewer classes than the best before
pub record Improves (kernel : Kernel) (before after : State) : Type 0 where
  pub whole : depth after ≡ kernel.size
  pub copied : after.best ≡ after.placed
  pub better : best_count after < best_count before

-- a step keeps the best placement, or improves it
pub step_keeps_or_improves : (kernel : Kernel) (st : State)
    → ((step kernel st).state.best ≡ st.best) ⊎ Improves kernel st (step kernel st).state
step_keeps_or_improves kernel st = by_cases (step_cases kernel st)
  where
    by_cases : {after : Step} → Stepped kernel st after
        → (after.state.best ≡ st.best) ⊎ Improves kernel st after.state
    by_cases (placing c w not-whole) = inl refl
    by_cases (improving c w whole) = inr
        (record { whole = whole; copied = refl; better = omega (arith, w.below_best) })
    by_cases (taking_back a earlier e h) = inl refl
    by_cases (closing e h) = inl refl

pub step_best_le : (kernel : Kernel) (st : State) → best_count (step kernel st).state ≤ best_count st
step_best_le kernel st =
    ⊎_elim (λ e. le_of_eq (ap used e)) (λ i. le_of_lt i.better) (step_keeps_or_improves kernel st)

pub search_best_le : (kernel : Kernel) (budget : ℕ) (st : State) → best_count (search kernel budget st).state ≤
    best_count st
search_best_le kernel budget st =
    search_keeps kernel (λ later. best_count later ≤ best_count st) (λ later e l. le_trans (step_best_le kernel later)
    l) budget st
    (le_refl (best_count st))
