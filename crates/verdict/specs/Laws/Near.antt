-- What the cells near a grant say of the sheet's grants: the partners of a grant are the others near it, so there is
-- one fewer; domination among the cells is domination among the grants; and the grant that a judged one is tied to is
-- at the lowest cell that it dominates.
use Rattle.std.specs.Prelude.{ℕ, ◌+◌, ◌*◌, ◌<◌, ◌≡◌, Bool, not, ◌&&◌, ◌||◌, List, eqb, length}
use Rattle.std.proofs.Common.{mul_assoc, subst, ◌∙◌, eq-eqb, eqb-true}
use Rattle.std.proofs.Math.Path.{refl, sym, ap}
use Rattle.std.proofs.Math.Bool.{true, false, So, and_comm}
use Rattle.std.proofs.Math.Option.{none, some}
use Rattle.spec.specs.Vocabulary.{filter, first}
use Rattle.spec.specs.Sheet.{Sheet, Grant, same_grant}
use Rattle.spec.specs.Fit.{fits, partners}
use Rattle.spec.specs.Reduction.{dominates, dominated}
use Rattle.bits.specs.Bit.{word_bits}
use Rattle.bits.specs.Truth.{implies, same_truth, and_intro}
use Rattle.bits.specs.Counting.{Lowest}
use Rattle.bits.specs.Laws.Below.{every_below_ext}
use Rattle.bits.specs.Laws.Lowest.{lowest_ext}
use Rattle.bits.specs.Laws.Count.{count_below_ext}
use Rattle.bits.specs.Laws.CountJoin.{count_below_without}
use Rattle.lists.specs.AppendLaws.{all_map, found_map, first_map}
use Rattle.lists.specs.PassingBelow.{passing_below, passing_all, passing_first, passing_first_none}
use Rattle.cell_rows.specs.Rows.{row_words, row_bits}
use Rattle.cells.specs.Laws.Grant.{same_grant_equal, equal_same_grant}
use Rattle.fit.specs.Laws.Fit.{fits_itself}
use Rattle.cells.specs.CellSets.{cell_grants}
use Rattle.cell_rows.specs.CellPlaces.{grant_of, marked, fit_in, near, Shown, Part, cells_of}
use Rattle.cells.specs.Laws.CellList.{cell_of, cell_of_grant, marked_holds, cell_grants_by_cell, passing_grants_count}
use Rattle.fit.specs.Laws.FitWord.{fits_in_rows}
use Rattle.verdict.specs.NearCells.{dominates_in, tie_at}

-- ---- two cells are one

pub same_cell : (m n : ℕ) → same_grant (grant_of m) (grant_of n) ≡ eqb n m
same_cell m n =
    same_truth (same_grant (grant_of m) (grant_of n)) (eqb n m)
    (λ e. eq-eqb n m (sym (cell_of_grant n) ∙ ap cell_of (sym (same_grant_equal (grant_of m) (grant_of n) e))
    ∙ cell_of_grant m))
    (λ e. equal_same_grant (ap grant_of (sym (eqb-true n m e))))

pub row_cells : (users : ℕ) → cells_of users ≡ users * row_bits
unfolding row_bits
row_cells users = mul_assoc users row_words word_bits

module _ {rows : List ℕ} {users : ℕ} {sheet : Sheet} (shown : Shown rows users sheet) {left : List ℕ}
    (part : Part left rows) where
  -- a cell of left is a held grant, which fits itself
  left_fits_itself : (n : ℕ) → So (marked left n) → So (fits sheet (grant_of n) (grant_of n))
  left_fits_itself n p = fits_itself sheet (grant_of n) (sym (marked_holds shown n) ∙ part.held n p)

  -- ---- partners

  -- a grant of left is among those that fit it, and the others are its partners
  pub partners_one_fewer : (it : ℕ) → it < users * row_bits → So (marked left it)
      → length (filter (fits sheet (grant_of it)) (cell_grants sheet left)) ≡ length
      (partners sheet (cell_grants sheet left) (grant_of it)) + 1
  partners_one_fewer it inside p =
      rw (
        passing_grants_count shown part (fits sheet (grant_of it)),
        passing_grants_count shown part (λ h. not (same_grant (grant_of it) h) && fits sheet (grant_of it) h),
      )
      (count_below_without (users * row_bits) (λ n. marked left n && fits sheet (grant_of it) (grant_of n)) inside
      (and_intro (marked left it) (fits sheet (grant_of it) (grant_of it)) p (left_fits_itself it p))
      ∙ ap (λ k. k + 1) (count_below_ext (users * row_bits)
      (λ n. (marked left n && fits sheet (grant_of it) (grant_of n)) && not (eqb n it))
      (λ n. marked left n && (not (same_grant (grant_of it) (grant_of n)) && fits sheet (grant_of it) (grant_of n)))
      (λ n l. rw (same_cell it n) (regroup (marked left n) (fits sheet (grant_of it) (grant_of n)) (not (eqb n it))))))
    where
      regroup : (a b c : Bool) → ((a && b) && c) ≡ (a && (c && b))
      regroup true b c = and_comm b c
      regroup false b c = refl

  -- ---- domination

  pub dominates_by_cell : (it g : ℕ) → So (marked left it) → So (marked left g)
      → dominates_in rows left users it g ≡ dominates sheet (cell_grants sheet left) (grant_of it) (grant_of g)
  dominates_by_cell it g p q =
      rw (row_cells users)
      (every_below_ext (users * row_bits) (λ n. implies (near rows left g n) (fit_in rows (grant_of it) (grant_of n)))
      (λ n. implies (marked left n) (tested n)) (λ n l. rw (fits_in_rows shown g n, fits_in_rows shown it n)
      (simpler (marked left n) (fits sheet (grant_of g) (grant_of n)) (fits sheet (grant_of it) (grant_of n))
      (same_grant (grant_of g) (grant_of n)) (same_grant (grant_of it) (grant_of n)) (same_fits g q n)
      (same_fits it p n)))
      ∙ sym (rw (cell_grants_by_cell shown part)
      (all_map covers grant_of (passing_below (users * row_bits) (marked left)) ∙ passing_all (users * row_bits)
      (marked left) tested)))
    where
      covers : Grant → Bool
      covers h =
          not (same_grant (grant_of g) h || fits sheet (grant_of g) h) || (same_grant (grant_of it) h
          || fits sheet (grant_of it) h)

      tested : ℕ → Bool
      tested n = covers (grant_of n)

      same_fits : (m : ℕ) → So (marked left m) → (n : ℕ) → So (same_grant (grant_of m) (grant_of n))
          → So (fits sheet (grant_of m) (grant_of n))
      same_fits m r n e =
          subst (λ h. So (fits sheet (grant_of m) h)) (same_grant_equal (grant_of m) (grant_of n) e)
          (left_fits_itself m r)

      -- what implies c adds nothing to it
      absorbed : (t c : Bool) → (So t → So c) → c ≡ (t || c)
      absorbed true c k = k refl
      absorbed false c k = refl

      simpler : (a b c s t : Bool) → (So s → So b) → (So t → So c) → implies (a && b) c ≡ implies a (not (s || b)
          || (t || c))
      simpler false b c s t h k = refl
      simpler true b c s t h k = rw (← absorbed s b h, ← absorbed t c k)

  -- ---- ties

  -- another remaining grant, which the judged one dominates
  tied_test : ℕ → Grant → Bool
  tied_test it g = not (same_grant (grant_of it) g) && dominates sheet (cell_grants sheet left) (grant_of it) g

  tied_test_at : (it : ℕ) → So (marked left it) → (n : ℕ) → tie_at rows left users it n ≡ (marked left n
      && tied_test it (grant_of n))
  unfolding tied_test
  tied_test_at it p n = where_marked (marked left n) (λ q. rw (same_cell it n, dominates_by_cell it n p q))
    where
      where_marked : (a : Bool) {b c : Bool} → (So a → b ≡ c) → (a && b) ≡ (a && c)
      where_marked true h = h refl
      where_marked false h = refl

  pub tied_by_cell : (it : ℕ) → So (marked left it) → {n : ℕ} → Lowest (cells_of users) (tie_at rows left users it) n
      → dominated sheet (cell_grants sheet left) (grant_of it) ≡ some (grant_of n)
  unfolding tied_test
  tied_by_cell it p lowest =
      ap (first (tied_test it)) (cell_grants_by_cell shown part)
      ∙ first_map (tied_test it) grant_of (passing_below (users * row_bits) (marked left))
      ∙ ap (found_map grant_of) (passing_first (users * row_bits) (marked left) (λ n. tied_test it (grant_of n))
      (rw (row_cells users) at (lowest_ext (λ n l. tied_test_at it p n) lowest)))

  pub untied_by_cell : (it : ℕ) → So (marked left it) → ((n : ℕ) → n < cells_of users → tie_at rows left users it n ≡
      false)
      → dominated sheet (cell_grants sheet left) (grant_of it) ≡ none
  unfolding tied_test
  untied_by_cell it p none-tied =
      ap (first (tied_test it)) (cell_grants_by_cell shown part)
      ∙ first_map (tied_test it) grant_of (passing_below (users * row_bits) (marked left))
      ∙ ap (found_map grant_of) (passing_first_none (users * row_bits) (marked left) (λ n. tied_test it (grant_of n))
      (λ n l. sym (tied_test_at it p n) ∙ none-tied n (rw (row_cells users) l)))
