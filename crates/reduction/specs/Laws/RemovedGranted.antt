-- What the reduction removes, and what it ties to, are grants of the sheet. Each visit is of a grant of the sheet,
-- and a partner is found among what remains; so an induction on the visits, and on the sweeps, keeps both.
use Rattle.std.specs.Prelude.{ℕ, zero, suc, ◌<◌, ◌≡◌, refl, Bool, true, false, cond, eqb, length}
use Rattle.std.proofs.Common.{not-suc-le-zero, ⊎_elim}
use mathlib.Core.List.{List, [], ◌∷◌, Memᴰ}
use Rattle.std.proofs.Math.Option.{Option, none, some}
use Rattle.spec.specs.Vocabulary.{empty}
use Rattle.spec.specs.Sheet.{Sheet, Grant, grants}
use Rattle.spec.specs.Fit.{partners}
use Rattle.spec.specs.Reduction.{Removal, single, tied, Reduction, dominated, is_single, tied_if, carry_out, visit}
use Rattle.spec.specs.Reduction.{visits, sweep, sweeps, unreduced, reduction, kernel}
use Rattle.bits.specs.Laws.Below.{last_or_below}
use Rattle.lists.specs.TestLaws.{first_passes}
use Rattle.reduction.specs.Laws.Without.{without_member}
use Rattle.verdict.specs.Log.{removal_at, log_of}

-- a removal of grants of a list
abbrev pub RemovalOf : List Grant → Removal → Type 0
RemovalOf l (single it) = Memᴰ it l
RemovalOf l (tied it g) = Memᴰ it l × Memᴰ g l

-- all removals are
abbrev pub RemovalsOf : List Grant → List Removal → Type 0
RemovalsOf l [] = Unit {0}
RemovalsOf l (removal ∷ earlier) = RemovalOf l removal × RemovalsOf l earlier

-- what remains, too
pub record StateOf (l : List Grant) (r : Reduction) : Type 0 where
  pub remains : (g : Grant) → Memᴰ g r.remaining → Memᴰ g l
  pub removals : RemovalsOf l r.removed

module _ (sheet : Sheet) (l : List Grant) where
  visit_keeps : (it : Grant) (r : Reduction) → Memᴰ it l → StateOf l r → StateOf l (visit sheet it r)
  visit_keeps it r m state =
      judged (empty (partners sheet r.remaining it)) (dominated sheet r.remaining it) refl
    where
      judged : (partnerless : Bool) (found : Option Grant) → dominated sheet r.remaining it ≡ found
          → StateOf l (carry_out (cond partnerless is_single (tied_if found)) it r)
      judged true found e =
          record {
            remains = λ g n. state.remains g (without_member it r.remaining n);
            removals =
                (m, state.removals);
          }
      judged false none e = state
      judged false (some g) e =
          record {
            remains = λ h n. state.remains h (without_member it r.remaining n);
            removals = (
              (m, state.remains g (first_passes _ r.remaining e).member),
              state.removals,
            );
          }

  visits_keep : (visited : List Grant) (r : Reduction) → ((g : Grant) → Memᴰ g visited → Memᴰ g l)
      → StateOf l r
      → StateOf l (visits sheet visited r)
  visits_keep [] r inside state = state
  visits_keep (it ∷ later) r inside state =
      visits_keep later (visit sheet it r) (λ g n. inside g (Memᴰ.tail n))
      (visit_keeps it r (inside it (Memᴰ.head refl)) state)

  sweeps_keep : (fuel : ℕ) (r : Reduction) → StateOf l r → StateOf l (sweeps sheet fuel r)
  sweeps_keep zero r state = state
  sweeps_keep (suc more) r state =
      let after = visits_keep r.remaining r state.remains state in
      either (eqb (length (sweep sheet r).remaining) (length r.remaining)) after (sweeps_keep more (sweep sheet r)
      after)
    where
      either : (settled : Bool) → StateOf l (sweep sheet r) → StateOf l (sweeps sheet more (sweep sheet r))
          → StateOf l (cond settled (sweep sheet r) (sweeps sheet more (sweep sheet r)))
      either true after later = after
      either false after later = later

-- the whole reduction is of the sheet's grants
pub reduction_granted : (sheet : Sheet) → StateOf (grants sheet) (reduction sheet)
unfolding reduction
reduction_granted sheet =
    sweeps_keep sheet (grants sheet) (suc (length (grants sheet))) (unreduced sheet)
    (record { remains = λ g m. m; removals = tt })

pub kernel_granted : (sheet : Sheet) (g : Grant) → Memᴰ g (kernel sheet) → Memᴰ g (grants sheet)
unfolding kernel
kernel_granted sheet = (reduction_granted sheet).remains

-- a removal of a log, by its number
pub logged_removal : (l : List Grant) (removed partner : List ℕ) (count : ℕ)
    → RemovalsOf l (log_of removed partner count)
    → (i : ℕ) → i < count → RemovalOf l (removal_at removed partner i)
logged_removal l removed partner zero all i k = absurd (not-suc-le-zero k)
logged_removal l removed partner (suc n) all i k =
    ⊎_elim (λ (e : i ≡ n). rw e all.0) (λ (m : i < n). logged_removal l removed partner n all.1 i m)
    (last_or_below k)
