-- What passes a test below an end, where the end goes one further: the number at the end is the only one that is new.
use Rattle.std.specs.Prelude.{ℕ, ◌+◌, ◌≡◌, refl, Bool, false, ◌&&◌, ◌||◌, eqb, ltb}
use Rattle.std.proofs.Common.{arith, sym, ap, ◌∙◌, ⊎_elim, lt-ltb, le-ltb, eq-eqb, ne_eqb}
use Rattle.std.proofs.Math.Bool.{So, and-true, and-false, or-false}
use Rattle.bits.specs.Laws.Below.{below_or_from}

module _ (test : ℕ → Bool) (m k : ℕ) where
  pub next_below : ((ltb m k && test m) || (eqb m k && test k)) ≡ (ltb m (k + 1) && test m)
  next_below =
      ⊎_elim
      (λ l. rw (lt-ltb m k l, lt-ltb m (k + 1) (omega arith), ne_eqb m k (omega arith)) (or-false (test m)))
      (λ l. ⊎_elim
      (λ n. let same : m ≡ k = omega arith in
      rw (same, le-ltb k k (omega arith), lt-ltb k (k + 1) (omega arith), eq-eqb k k refl))
      (λ n. rw (le-ltb m k l, le-ltb m (k + 1) n, ne_eqb m k (omega arith)))
      (below_or_from m (k + 1)))
      (below_or_from m k)

  pub next_passes : So (test k) → ((ltb m k && test m) || eqb m k) ≡ (ltb m (k + 1) && test m)
  next_passes p = ap (λ b. (ltb m k && test m) || b) (sym (and-true (eqb m k))) ∙ (rw p at next_below)

  pub next_fails : test k ≡ false → (ltb m k && test m) ≡ (ltb m (k + 1) && test m)
  next_fails f =
      sym (or-false (ltb m k && test m)) ∙ ap (λ b. (ltb m k && test m) || b) (sym (and-false (eqb m k)))
      ∙ (rw f at next_below)
