-- The search for the first misfit by the words of a column: only the users at the positions of some can be misfits,
-- and of them those are whose cells do not all fit.
use Rattle.std.specs.Prelude.{ℕ, ◌+◌, ◌-◌, ◌*◌, ◌/◌, ◌%◌, ◌≤◌, ◌<◌, ◌≡◌, false, not, ◌&&◌, List}
use Rattle.std.proofs.Common.{zero-le, add-sub_of_le, arith, subst, ⊎_elim}
use Rattle.std.proofs.Math.Bool.{So, and-false}
use Rattle.bits.specs.Counting.{NextFrom}
use Rattle.bits.specs.Bit.{bit, word_bits}
use Rattle.bits.specs.Truth.{passes_or_fails, and_intro, and_left, and_right}
use Rattle.bits.specs.Laws.Below.{below_or_from}
use Rattle.cell_rows.specs.Rows.{row_bits}
use Rattle.fit.specs.Columns.{held_in}
use Rattle.verdict.specs.Misfits.{row_fits, misfit_at, users_before}
use Rattle.verdict.specs.Laws.Misfit.{SuspectsWord}

-- none of the users before those at word j of the column is a misfit
abbrev pub NoMisfitBefore : List ℕ → List ℕ → ℕ → ℕ → ℕ → ℕ → Type 0
NoMisfitBefore rows left users it g j = (n : ℕ) → n < users_before users j → misfit_at rows left it g n ≡ false

module _ (rows left : List ℕ) (users it g j word q : ℕ) (inside : j * word_bits < users)
    (suspects : SuspectsWord rows left users it g j word)
    (tried : NextFrom (λ r. bit word r && not (row_fits rows left it (g / row_bits) (j * word_bits + r))) 0
    word_bits q)
    (before : NoMisfitBefore rows left users it g j) where
  not_misfit : (r : ℕ) → r < word_bits → j * word_bits + r < users
      → (bit word r && not (row_fits rows left it (g / row_bits) (j * word_bits + r))) ≡ false
      → misfit_at rows left it g (j * word_bits + r) ≡ false
  not_misfit r l k fails =
      ⊎_elim
      (λ (p : So (bit word r)). rw (rw p at fails) (and-false (held_in rows (g % row_bits) (j * word_bits + r))))
      (λ (p : bit word r ≡ false). suspects.others r l p k) (passes_or_fails (bit word r))

  none_below : (n : ℕ) → n < j * word_bits + q → n < j * word_bits + word_bits → n < users
      → misfit_at rows left it g n ≡ false
  none_below n l k few =
      ⊎_elim (λ (earlier : n < j * word_bits). before n (omega arith))
      (λ (from : j * word_bits ≤ n). subst (λ m. misfit_at rows left it g m ≡ false) (add-sub_of_le from)
      (not_misfit (n - j * word_bits) (omega arith) (omega arith) (tried.skipped (n - j * word_bits) zero-le
      (omega arith))))
      (below_or_from n (j * word_bits))

  pub first_misfit : q < word_bits → NextFrom (misfit_at rows left it g) 0 users (j * word_bits + q)
  first_misfit l =
      let unfit = not (row_fits rows left it (g / row_bits) (j * word_bits + q)) in
      let set = and_left (bit word q) unfit (tried.passes l) in
      let few = suspects.within q l set in
      record {
        not_before = zero-le;
        not_past = omega (arith, few);
        passes = λ k. and_intro (held_in rows (g % row_bits) (j * word_bits + q)) unfit (suspects.holds q l set)
            (and_right (bit word q) unfit (tried.passes l));
        skipped = λ n from k. none_below n k (omega arith) (omega (arith, few));
      }

  pub no_misfit_then : word_bits ≤ q → NoMisfitBefore rows left users it g (j + 1)
  no_misfit_then l n k = none_below n (omega arith) (omega arith) (omega arith)

-- none at all
pub no_misfit_first : (rows left : List ℕ) (users it g j : ℕ) → users ≤ j * word_bits
    → NoMisfitBefore rows left users it g j
    → NextFrom (misfit_at rows left it g) 0 users users
no_misfit_first rows left users it g j end before =
    record {
      not_before = zero-le;
      not_past = omega arith;
      skipped = λ n from l. before n (omega arith);
      passes = λ l. absurd (omega arith);
    }
