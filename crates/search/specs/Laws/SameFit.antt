-- A search asks only of grants of the kernel whether they fit: two kernels of one size, with the same fit below it
-- and the same counts, are searched alike. A step asks of grant d below the size and of earlier ones, and of nothing
-- else.
use Prim.Native.Nat.{ℕ, zero, suc, ◌<◌}
use Rattle.std.proofs.Math.Nat.{le_step}
use Rattle.std.proofs.Common.{le_refl, arith, ◌∙◌, ⊎_elim, ltb-true}
use Rattle.std.specs.Prelude.{◌≡◌, Bool, false, List, [], ◌∷◌, ltb, length}
use Rattle.std.proofs.Math.Path.{refl, ap}
use Rattle.std.proofs.Math.Bool.{So, cond}
use Rattle.std.proofs.Math.Option.{Option, none, some}
use Rattle.spec.specs.Limits.{search_limit}
use Rattle.spec.specs.Cover.{used, joins}
use Rattle.spec.specs.Machine.{Kernel, State, Ran, depth, possible, choice, move, step, no_step, run}
use Rattle.spec.specs.Machine.{search}
use Rattle.bits.specs.Truth.{passes_or_fails}
use Rattle.bits.specs.Laws.Lowest.{lowest_below_ext}

-- two kernels that no search tells apart
pub record SameKernel (one other : Kernel) : Type 0 where
  pub size : one.size ≡ other.size
  pub singles : one.singles ≡ other.singles
  pub witness : one.witness ≡ other.witness
  pub fit : (i j : ℕ) → i < one.size → j < one.size → one.fit i j ≡ other.fit i j

-- joining a class asks of the placed grants alone
joins_same : (f g : ℕ → ℕ → Bool) (d : ℕ) (placed : List ℕ) (c : ℕ) → ((j : ℕ) → j < length placed → f d j ≡ g d j)
    → joins f d placed c ≡ joins g d placed c
joins_same f g d [] c h = refl
joins_same f g d (a ∷ earlier) c h =
    rw (h (length earlier) (le_refl (suc (length earlier))), joins_same f g d earlier c (λ j l. h j (le_step l)))

module _ (one other : Kernel) (same : SameKernel one other) where
  possible_same : (st : State) (c : ℕ) → possible one st c ≡ possible other st c
  possible_same st c =
      ⊎_elim (λ (p : So (ltb (depth st) one.size)). inside (ltb-true (depth st) one.size p))
      (λ (f : ltb (depth st) one.size ≡ false). outside f) (passes_or_fails (ltb (depth st) one.size))
    where
      inside : depth st < one.size → possible one st c ≡ possible other st c
      inside l =
          rw (
            joins_same one.fit other.fit (depth st) st.placed c (λ j k. same.fit (depth st) j l
                (omega arith)),
            same.size,
          )

      outside : ltb (depth st) one.size ≡ false → possible one st c ≡ possible other st c
      outside f = let g : ltb (depth st) other.size ≡ false = rw same.size at f in rw (f, g)

  choice_same : (st : State) → choice one st ≡ choice other st
  choice_same st = lowest_below_ext (suc (used st.placed)) (possible one st) (possible other st)
      (λ c l. possible_same st c)

  move_same : (st : State) (chosen : Option ℕ) → move one st chosen ≡ move other st chosen
  move_same st none = refl
  move_same st (some c) = rw (same.size, same.singles, same.witness)

  pub step_same : (st : State) → step one st ≡ step other st
  unfolding step
  step_same st = move_same st (choice one st) ∙ ap (move other st) (choice_same st)

  pub run_same : (budget : ℕ) (st : State) → run one budget st ≡ run other budget st
  unfolding run
  run_same zero st = refl
  run_same (suc budget) st =
      rw (step_same st, run_same budget (step other st).state)

  pub search_same : (budget : ℕ) (st : State) → search one budget st ≡ search other budget st
  unfolding search
  search_same budget st =
      ap (λ (ran : Ran). cond (ltb search_limit one.size) (no_step st) ran) (run_same budget st)
      ∙ ap (λ (n : ℕ). cond (ltb search_limit n) (no_step st) (run other budget st)) same.size
