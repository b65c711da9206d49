-- Domination and ties word by word. The cells of one user that are in left are all near each other: none of them is
-- dominated unless all of them fit the judged cell.
use Rattle.std.specs.Prelude.{ℕ, ◌+◌, ◌*◌, ◌/◌, ◌%◌, ◌<◌, ◌≡◌, refl, Bool, false, not, List, eqb}
use Rattle.std.proofs.Common.{arith, sym, ap, ◌∙◌}
use Rattle.std.proofs.Math.Bool.{So}
use Rattle.std.proofs.Math.Arith.{digits_lt, digits_div, digits_mod}
use Rattle.bits.specs.Bit.{word_bits}
use Rattle.bits.specs.Truth.{implies, implies_intro, implies_elim, fails_unless, not_both, and_intro, and_left}
use Rattle.bits.specs.Truth.{and_right}
use Rattle.bits.specs.Laws.Below.{every_below_intro, every_below_elim}
use Rattle.cell_rows.specs.Rows.{row_words, row_bits, cell}
use Rattle.cells.specs.CellSets.{in_cells}
use Rattle.cell_rows.specs.CellPlaces.{grant_of, marked, fit_in, near, Part, cells_of}
use Rattle.cell_rows.specs.Laws.Width.{rows_cells, user_of_cell}
use Rattle.cells.specs.Laws.CellPlace.{cell_marked}
use Rattle.fit.specs.Columns.{held_in}
use Rattle.verdict.specs.NearCells.{dominates_in, tie_test, tie_at}
use Rattle.verdict.specs.Insides.{held_if_left, in_row}

-- ---- domination

-- what domination asks of a cell
abbrev pub covered_at : List ℕ → List ℕ → ℕ → ℕ → ℕ → Bool
covered_at rows left it g n = implies (near rows left g n) (fit_in rows (grant_of it) (grant_of n))

-- ---- the cells of a user

-- position q of word d of user x's row
pub row_cell : (x d q : ℕ) → x * row_bits + (d * word_bits + q) ≡ (x * row_words + d) * word_bits + q
row_cell x d q = omega (arith, rows_cells x)

-- the cells of a word have one user
pub one_word_user : (i q r : ℕ) → q < word_bits → r < word_bits
    → (i * word_bits + q) / row_bits ≡ (i * word_bits + r) / row_bits
one_word_user i q r l k =
    user_of_cell (i * word_bits + q) ∙ ap (λ w. w / row_words) (digits_div i l ∙ sym (digits_div i k))
    ∙ sym (user_of_cell (i * word_bits + r))

-- ---- ties

-- two cells of one user that are set fit
pub one_row_fits : (rows : List ℕ) (m n : ℕ) → m / row_bits ≡ n / row_bits → So (marked rows m) → So (marked rows n)
    → So (fit_in rows (grant_of m) (grant_of n))
one_row_fits rows m n one_user p q =
    rw one_user
    (and_intro (in_cells rows (grant_of n)) (cell rows (n / row_bits) (m % row_bits))
    (cell_marked rows n ∙ q) (rw one_user at (cell_marked rows m ∙ p)))

module _ (rows left : List ℕ) (users it : ℕ) (part : Part left rows) where
  -- a cell of left is near each other one of its user, so what dominates it fits them all
  tied_fits : (m n : ℕ) → m / row_bits ≡ n / row_bits → So (tie_at rows left users it m) → n < cells_of users
      → So (marked left n) → So (fit_in rows (grant_of it) (grant_of n))
  tied_fits m n one_user p l set =
      implies_elim (near rows left m n) (fit_in rows (grant_of it) (grant_of n))
      (every_below_elim (cells_of users) (covered_at rows left it m) dominated l)
      (and_intro (marked left n) (fit_in rows (grant_of m) (grant_of n)) set
      (one_row_fits rows m n one_user
      (part.held m (and_left (marked left m) (tie_test rows left users it m) p)) (part.held n set)))
    where
      dominated : So (dominates_in rows left users it m)
      dominated = and_right (not (eqb m it)) (dominates_in rows left users it m)
          (and_right (marked left m) (tie_test rows left users it m) p)

  -- they fit it only if they are in its row
  pub unless_in_own_row : (u n : ℕ) → u < users → n / row_bits ≡ u → in_row rows left (it / row_bits) u ≡ false
      → tie_at rows left users it n ≡ false
  unless_in_own_row u n inside of-u fails =
      fails_unless (tie_at rows left users it n) (λ p. not_both
      (every_below_intro row_bits (held_if_left rows left (it / row_bits) u) (λ r k.
      implies_intro (marked left (u * row_bits + r)) (cell rows (it / row_bits) r) (λ m. in_own p r k m))) fails)
    where
      in_own : So (tie_at rows left users it n) → (r : ℕ) → r < row_bits → So (marked left (u * row_bits + r))
          → So (cell rows (it / row_bits) r)
      in_own p r k m =
          rw (digits_mod u k) at
          (and_left (cell rows (it / row_bits) ((u * row_bits + r) % row_bits))
          (cell rows ((u * row_bits + r) / row_bits) (it % row_bits))
          (tied_fits n (u * row_bits + r) (of-u ∙ sym (digits_div u k)) p
          (rw (rows_cells users) at (digits_lt inside k)) m))

  -- and only if their user holds its permission
  pub unless_held : (n : ℕ) → n < cells_of users → held_in rows (it % row_bits) (n / row_bits) ≡ false
      → tie_at rows left users it n ≡ false
  unless_held n l fails =
      fails_unless (tie_at rows left users it n) (λ p. not_both
      (and_right (cell rows (it / row_bits) (n % row_bits)) (held_in rows (it % row_bits) (n / row_bits))
      (tied_fits n n refl p l (and_left (marked left n) (tie_test rows left users it n) p))) fails)
