-- Domination as the rows say it: all cells of left that are near g fit the judged cell. Both grants are held, so each
-- fits itself, and "are it or fit it" is to fit it. The lowest other cell of left that is dominated is what the
-- judged grant is tied to.
use Rattle.std.specs.Prelude.{ℕ, ◌+◌, ◌*◌, ◌<◌, ◌≡◌, Bool, false, not, ◌&&◌, List, eqb}
use Rattle.std.proofs.Math.Bool.{So}
use Rattle.spec.specs.Vocabulary.{every_below}
use Rattle.bits.specs.Bit.{bit, word_bits}
use Rattle.bits.specs.Truth.{implies}
use Rattle.cell_rows.specs.CellPlaces.{cells_of, grant_of, marked, fit_in, near}

-- the cell it dominates the cell g
abbrev pub dominates_in : List ℕ → List ℕ → ℕ → ℕ → ℕ → Bool
dominates_in rows left users it g =
    every_below (cells_of users) (λ n. implies (near rows left g n) (fit_in rows (grant_of it) (grant_of n)))

-- g is another cell, and the cell it dominates it
abbrev pub tie_test : List ℕ → List ℕ → ℕ → ℕ → ℕ → Bool
tie_test rows left users it g = not (eqb g it) && dominates_in rows left users it g

-- n is a cell of left to which the cell it is tied
abbrev pub tie_at : List ℕ → List ℕ → ℕ → ℕ → ℕ → Bool
tie_at rows left users it n = marked left n && tie_test rows left users it n

-- the cells of word i still to be tried are at the positions of w
pub record Untried (rows left : List ℕ) (users it i w : ℕ) : Type 0 where
  pub set : (q : ℕ) → q < word_bits → So (bit w q) → So (marked left (i * word_bits + q))
  pub other : (q : ℕ) → q < word_bits → So (bit w q) → So (not (eqb (i * word_bits + q) it))
  pub tried : (q : ℕ) → q < word_bits → bit w q ≡ false → tie_at rows left users it (i * word_bits + q) ≡ false
