-- Going forward over the removals: a classing of all grants leaves one of what remains, with a class fewer for each
-- single removed. Nothing left fits a single, so nothing left shares its class; that class is taken out, and the
-- classes above it are numbered one lower. A tied grant is just left out.
use Rattle.std.specs.Prelude.{ℕ, ◌+◌, ◌≤◌, ◌<◌, pred, ◌≡◌, ◌⊎◌, ◌≢◌, cond, ltb, length}
use Rattle.std.proofs.Common.{arith, sym, inl, inr, ⊎_elim, ltb-true, ltb-false}
use mathlib.Core.List.{List, Memᴰ}
use Rattle.spec.specs.Sheet.{Sheet, Grant, grants}
use Rattle.spec.specs.Fit.{without}
use Rattle.spec.specs.Reduction.{Reduction, kernel, singles_of, singles}
use Rattle.bits.specs.Truth.{passes_or_fails, not_both}
use Rattle.reduction.specs.Laws.Without.{without_member}
use Rattle.minimality.specs.GrantClassing.{ClassingOf}
use Rattle.minimality.specs.Removals.{Alone, Reached, at_first, by_single, by_tie, reduction_reached}

-- ---- a class taken out of the numbering

-- the number of a class once class c is taken out: one lower above c
pub renumbered : ℕ → ℕ → ℕ
renumbered c a = cond (ltb c a) (pred a) a

renumbered_cases : (c a : ℕ) → ((c < a) × (renumbered c a ≡ pred a)) ⊎ ((a ≤ c) × (renumbered c a ≡ a))
unfolding renumbered
renumbered_cases c a =
    ⊎_elim (λ e. inl (ltb-true c a e, rw e)) (λ e. inr (ltb-false c a e, rw e)) (passes_or_fails (ltb c a))

pub renumbered_within : (c a count : ℕ) → c < count → a < count → a ≢ c → renumbered c a < pred count
renumbered_within c a count at_c at_a other =
    ⊎_elim (λ above. omega arith) (λ below. omega arith) (renumbered_cases c a)

-- different classes keep different numbers
pub renumbered_apart : (c a b : ℕ) → a ≢ c → b ≢ c → renumbered c a ≡ renumbered c b → a ≡ b
renumbered_apart c a b not_a not-b same =
    ⊎_elim
    (λ above. ⊎_elim (λ above-too. omega arith) (λ below-now. omega arith) (renumbered_cases c b))
    (λ below. ⊎_elim (λ above-now. omega arith) (λ below-too. omega arith) (renumbered_cases c b))
    (renumbered_cases c a)

-- ---- one removal

-- a single's class is its own, so without it there is a class fewer
pub single_frees_its_class : (sheet : Sheet) (l : List Grant) (it : Grant) {count : ℕ} {class : Grant → ℕ}
    → Memᴰ it l
    → Alone sheet (without it l) it → ClassingOf sheet l count class
    → ClassingOf sheet (without it l) (pred count) (λ g. renumbered (class it) (class g))
single_frees_its_class sheet l it {count} {class} m alone c =
    record {
      within = λ g n. renumbered_within (class it) (class g) count (c.within it m)
          (c.within g (without_member it l n)) (other g n);
      fitting = λ g h n k e.
          c.fitting g h (without_member it l n) (without_member it l k)
          (renumbered_apart (class it) (class g) (class h) (other g n) (other h k) e);
    }
  where
    other : (g : Grant) → Memᴰ g (without it l) → class g ≢ class it
    other g n e = not_both (c.fitting it g m (without_member it l n) (sym e)) (alone g n)

-- fewer grants keep their classes
pub classing_of_fewer : (sheet : Sheet) (l : List Grant) (it : Grant) {count : ℕ} {class : Grant → ℕ}
    → ClassingOf sheet l count class
    → ClassingOf sheet (without it l) count class
classing_of_fewer sheet l it c =
    record {
      within = λ g n. c.within g (without_member it l n);
      fitting = λ g h n k e. c.fitting g h (without_member it l n) (without_member it l k) e;
    }

-- ---- all removals

-- a classing of what is left, with a class to spare for each grant removed as single
pub record Left (sheet : Sheet) (left removed : List Grant) (count : ℕ) : Type 0 where
  pub rest : ℕ
  pub class : Grant → ℕ
  pub classing : ClassingOf sheet left rest class
  pub spared : length removed + rest ≤ count

-- a classing of all grants leaves one in every state of the reduction
pub reduction_keeps_a_classing : {sheet : Sheet} {r : Reduction} {count : ℕ} {class : Grant → ℕ} → Reached sheet r
    → ClassingOf sheet (grants sheet) count class → Left sheet r.remaining (singles_of r.removed) count
reduction_keeps_a_classing {count} {class} at_first c =
    record { rest = count; class = class; classing = c; spared = omega arith }
reduction_keeps_a_classing {sheet} (by_single {r} it reached m alone) c =
    let before = reduction_keeps_a_classing reached c in
    record {
      rest = pred before.rest;
      class = λ g. renumbered (before.class it) (before.class g);
      classing = single_frees_its_class sheet r.remaining it m alone before.classing;
      spared = omega (arith, before.spared, before.classing.within it m);
    }
reduction_keeps_a_classing {sheet} (by_tie {r} it g reached m dominating) c =
    let before = reduction_keeps_a_classing reached c in
    record {
      rest = before.rest;
      class = before.class;
      classing = classing_of_fewer sheet r.remaining it before.classing;
      spared = before.spared;
    }

-- and so one of the kernel
pub kernel_keeps_a_classing : (sheet : Sheet) {count : ℕ} {class : Grant → ℕ} → ClassingOf sheet (grants sheet) count
    class
    → Left sheet (kernel sheet) (singles sheet) count
unfolding kernel singles
kernel_keeps_a_classing sheet c = reduction_keeps_a_classing (reduction_reached sheet) c
