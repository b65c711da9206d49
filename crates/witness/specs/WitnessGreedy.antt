-- The greedy choice by cells. The grants that are left once one is taken are those whose cells the words leave; a
-- grant is taken in the end exactly if it is taken so far or is taken from those left.
use Rattle.std.specs.Prelude.{ℕ, suc, ◌*◌, ◌≡◌, refl, Bool, true, false, not, ◌&&◌, ◌||◌, List, [], map, eqb}
use Rattle.std.proofs.Common.{sym, ap, subst, ◌∙◌, ⊎_elim, eqb-true, eq-eqb}
use Rattle.std.proofs.Math.Bool.{So, or-false, or_assoc}
use Rattle.std.proofs.Math.Option.{some}
use Rattle.spec.specs.Limits.{grant_limit}
use Rattle.spec.specs.Sheet.{Sheet, Grant, same_grant}
use Rattle.spec.specs.Fit.{fits, among}
use Rattle.spec.specs.Witness.{fewest_partners, left_after, taken}
use Rattle.bits.specs.Truth.{same_truth, and_left, or_cases}
use Rattle.lists.specs.AppendLaws.{filter_map}
use Rattle.lists.specs.PassingBelow.{passing_below, passing_filter, passing_ext}
use Rattle.cell_rows.specs.Rows.{row_bits}
use Rattle.cells.specs.Laws.Grant.{same_grant_equal}
use Rattle.fit.specs.Laws.Fit.{fits_itself}
use Rattle.cells.specs.CellSets.{cell_grants}
use Rattle.cell_rows.specs.CellPlaces.{grant_of, marked, fit_in, Shown, Part, cells_of}
use Rattle.cells.specs.Laws.CellList.{marked_holds, cell_grants_by_cell}
use Rattle.fit.specs.Laws.FitWord.{fits_in_rows}
use Rattle.verdict.specs.Laws.Near.{same_cell, row_cells}
use Rattle.cells.specs.MadeCells.{MadeCells}
use Rattle.cells.specs.Laws.MadeCells.{made_part}
use Rattle.witness.specs.WitnessCells.{left_over}

-- ---- what is left once a grant is taken

module _ {rows left : List ℕ} {users : ℕ} {sheet : Sheet} (shown : Shown rows users sheet) (part : Part left rows)
    (it : ℕ) (p : So (marked left it))
    {rest : List ℕ} (made : MadeCells (left_over rows left it) (cells_of users) rest) where
  pub rest_part : Part rest rows
  rest_part =
      made_part (left_over rows left it) (cells_of users) rest rows made
      (λ n q. part.held n (and_left (marked left n) (not (fit_in rows (grant_of it) (grant_of n))) q))

  -- the grant itself fits itself, so to be neither it nor a partner is not to fit it
  neither : (n : ℕ) → not (fit_in rows (grant_of it) (grant_of n)) ≡ not (same_grant (grant_of it) (grant_of n)
      || fits sheet (grant_of it) (grant_of n))
  neither n =
      ap not (fits_in_rows shown it n ∙ absorbed (same_grant (grant_of it) (grant_of n))
      (fits sheet (grant_of it) (grant_of n)) same_fits)
    where
      same_fits : So (same_grant (grant_of it) (grant_of n)) → So (fits sheet (grant_of it) (grant_of n))
      same_fits e =
          subst (λ h. So (fits sheet (grant_of it) h)) (same_grant_equal (grant_of it) (grant_of n) e)
          (fits_itself sheet (grant_of it) (sym (marked_holds shown it) ∙ part.held it p))

      absorbed : (s f : Bool) → (So s → So f) → f ≡ (s || f)
      absorbed true f k = k refl
      absorbed false f k = refl

  pub rest_grants : cell_grants sheet rest ≡ left_after sheet (grant_of it) (cell_grants sheet left)
  rest_grants =
      cell_grants_by_cell shown rest_part
      ∙ ap (map grant_of) (passing_ext (users * row_bits) (marked rest) (λ n. marked left n && stays (grant_of n))
      (λ n l.
      made.inside n (rw (row_cells users) l) ∙ ap (λ b. marked left n && b) (neither n)))
      ∙ sym (rw (cell_grants_by_cell shown part)
      (filter_map stays grant_of (passing_below (users * row_bits) (marked left))
      ∙ ap (map grant_of) (passing_filter (users * row_bits) (marked left) (λ n. stays (grant_of n)))))
    where
      stays : Grant → Bool
      stays h = not (same_grant (grant_of it) h || fits sheet (grant_of it) h)

-- ---- the choice in the making

-- of the kernel some are taken and put in with the first cells, and with so many choices more the others will be
-- taken from those left
pub record Greedy (sheet : Sheet) (rows kernel first left chosen : List ℕ) (more : ℕ) : Type 0 where
  pub left_part : Part left rows
  pub chosen_part : Part first rows → Part chosen rows
  pub so_far :
      (n : ℕ) → (marked first n || among (taken sheet grant_limit (cell_grants sheet kernel)) (grant_of n))
      ≡ (marked chosen n || among (taken sheet more (cell_grants sheet left)) (grant_of n))

pub greedy_starts : (sheet : Sheet) (rows kernel first : List ℕ) → Part kernel rows
    → Greedy sheet rows kernel first kernel first grant_limit
greedy_starts sheet rows kernel first part =
    record { left_part = part; chosen_part = λ p. p; so_far = λ n. refl }

module _ {rows : List ℕ} {users : ℕ} {sheet : Sheet} (shown : Shown rows users sheet)
    (kernel first left chosen : List ℕ) (more : ℕ) where
  -- the grant at a cell is taken
  pub greedy_goes_on : Greedy sheet rows kernel first left chosen (suc more) → (it : ℕ) → So (marked left it)
      → fewest_partners sheet (cell_grants sheet left) ≡ some (grant_of it)
      → (rest : List ℕ) → MadeCells (left_over rows left it) (cells_of users) rest
      → (also : List ℕ) → ((n : ℕ) → marked also n ≡ (marked chosen n || eqb n it))
      → Greedy sheet rows kernel first rest also more
  greedy_goes_on greedy it p found rest made also says = record {
    left_part = rest_part shown greedy.left_part it p made;
    chosen_part = λ whole. record {
      held = λ n q. ⊎_elim ((greedy.chosen_part whole).held n) (here n)
          (or_cases (marked chosen n) (eqb n it) (sym (says n) ∙ q));
    };
    so_far = λ n.
        greedy.so_far n
        ∙ rw (found, same_cell n it, ← rest_grants shown greedy.left_part it p made, says n, turned n it)
        (sym (or_assoc (marked chosen n) (eqb n it) (among (taken sheet more (cell_grants sheet rest)) (grant_of n))));
  }
    where
      here : (n : ℕ) → So (eqb n it) → So (marked rows n)
      here n e = rw (eqb-true n it e) (greedy.left_part.held it p)

      turned : (m n : ℕ) → eqb n m ≡ eqb m n
      turned m n = same_truth (eqb n m) (eqb m n) (λ e. eq-eqb m n (sym (eqb-true n m e)))
          (λ e. eq-eqb n m (sym (eqb-true m n e)))

-- the first cells and those of the grants taken
pub record Chosen (sheet : Sheet) (rows kernel first chosen : List ℕ) : Type 0 where
  pub part : Part first rows → Part chosen rows
  pub says : (n : ℕ) → marked chosen n ≡ (marked first n || among (taken sheet grant_limit (cell_grants sheet kernel))
      (grant_of n))

-- none is left to choose, or no choice
pub greedy_ends : (sheet : Sheet) (rows kernel first left chosen : List ℕ) (more : ℕ)
    → Greedy sheet rows kernel first left chosen more
    → taken sheet more (cell_grants sheet left) ≡ [] → Chosen sheet rows kernel first chosen
greedy_ends sheet rows kernel first left chosen more greedy e = record {
  part = greedy.chosen_part;
  says = λ n. sym (greedy.so_far n ∙ rw e (or-false (marked chosen n)));
}
