-- The candidates of a word for a tie: a misfit of the lowest one fails it, and with it all others whose permissions
-- the misfit holds.
use Rattle.std.specs.Prelude.{ℕ, ◌+◌, ◌*◌, ◌≤◌, ◌<◌, ◌≡◌, false, not, ◌&&◌, List, eqb}
use Rattle.std.proofs.Common.{arith, sym, ap, ◌∙◌, ⊎_elim}
use Rattle.std.proofs.Math.Bool.{So, and-true, and-false}
use Rattle.bits.specs.Bit.{bit, word_bits}
use Rattle.bits.specs.Truth.{passes_or_fails, not_both, and_left}
use Rattle.bits.specs.Counting.{Lowest}
use Rattle.cell_rows.specs.CellPlaces.{marked}
use Rattle.verdict.specs.NearCells.{tie_at, Untried}
use Rattle.verdict.specs.Misfits.{row_word, misfit_at}
use Rattle.verdict.specs.Laws.Misfit.{misfit_fails, misfit_of_others, misfit_held}

module _ (rows left : List ℕ) (users it i : ℕ) where
  -- a misfit of the lowest candidate
  module _ (x : ℕ) {w q rest : ℕ} (low : Lowest word_bits (bit w) q)
      (misfit : So (misfit_at rows left it (i * word_bits + q) x))
      (says : (r : ℕ) → bit rest r ≡ (bit w r && not (bit (row_word rows x i) r))) where
    tried_by_misfit : x < users → Untried rows left users it i w → Untried rows left users it i rest
    tried_by_misfit inside u =
        record {
          set = λ r l p. u.set r l (and_left (bit w r) (not (bit (row_word rows x i) r)) (sym (says r)
              ∙ p));
          other = λ r l p. u.other r l (and_left (bit w r) (not (bit (row_word rows x i) r))
              (sym (says r) ∙ p));
          tried = λ r l e. ⊎_elim (λ held. fails r l held)
              (λ other. u.tried r l (sym (and-true (bit w r)) ∙ (rw other at (sym (says r) ∙ e))))
              (passes_or_fails (bit (row_word rows x i) r));
        }
      where
        fails : (r : ℕ) → r < word_bits → So (bit (row_word rows x i) r) → tie_at rows left users it
            (i * word_bits + r) ≡ false
        fails r l held =
            rw (
              misfit_fails rows left it (i * word_bits + r) users
                  inside (misfit_of_others rows left it i x q r low.within l misfit held),
              and-false (not (eqb (i * word_bits + r) it)),
            )
            (and-false (marked left (i * word_bits + r)))

    -- the lowest is one that fails, so fewer are left
    fewer_untried : rest ≤ w → rest < w
    fewer_untried most = omega (arith, most, differs)
      where
        differs : rest ≡ w → ⊥
        differs e =
            not_both low.holds
            (sym (ap (λ n. bit n q) e) ∙ says q
            ∙ rw (misfit_held rows left it i x q low.within misfit) (and-false (bit w q)))

    pub misfit_tried : x < users → rest ≤ w → Untried rows left users it i w
        → (rest < w) × Untried rows left users it i rest
    misfit_tried inside most u = (fewer_untried most, tried_by_misfit inside u)
