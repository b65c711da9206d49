-- The groupings of the kernel, from its cells. What the rows say of two cells is what the sheet says of their grants,
-- so each relation of the cells is that of the grants, and the groupings are one. The grouping by user is never the
-- first best, since the grouping by fit never has more classes.
use Rattle.std.specs.Prelude.{ℕ, ◌≤◌, ◌<◌, ◌≡◌, List, [], map, length, get_or}
use Rattle.std.proofs.Common.{le_refl, le_trans, lt_trans, mod-lt, ap, ◌∙◌, le-leb}
use Rattle.std.proofs.Math.Path.{sym}
use Rattle.std.proofs.lemmas.List.{length-map}
use Rattle.spec.specs.Sheet.{Sheet, Grant}
use Rattle.spec.specs.Reduction.{kernel}
use Rattle.spec.specs.Cover.{used, grouping, grant_at, fit_at, permission_at, fewer, best_grouping, first_best}
use Rattle.lists.specs.KeyLaws.{same_key, by_key}
use Rattle.lists.specs.SameGrouping.{grouping_ext}
use Rattle.cover.specs.Laws.Cover.{fewer_le_earlier, by_fit, by_permission, by_user}
use Rattle.cell_rows.specs.CellPlaces.{grant_of, Shown}
use Rattle.cell_rows.specs.Laws.Width.{row_bits_pos}
use Rattle.fit.specs.Laws.Fit.{Held, one_user_fits}
use Rattle.fit.specs.Laws.FitWord.{fit_at_grants}
use Rattle.cells.specs.KernelArray.{grant_at_cell}
use Rattle.reduction.specs.Laws.KernelOrder.{kernel_users_rise, kernel_is_held}
use Rattle.cover.specs.CoverRelation.{fit_at_cells, permission_at_cell, user_at_cell, HeldCells}
use Rattle.cover.specs.Laws.CoverUsers.{no_more_than_keys}
use Rattle.cover.specs.CoverPlaced.{Placed, none_placed}

-- by user there are no fewer classes than by fit
by_user_no_fewer : (sheet : Sheet) → used (by_fit sheet (kernel sheet)) ≤ used (by_user (kernel sheet))
by_user_no_fewer sheet =
    no_more_than_keys (fit_at sheet (kernel sheet)) (λ i. (grant_at (kernel sheet) i).user) (length (kernel sheet))
    (λ i j k l e. one_user_fits sheet (grant_at (kernel sheet) i) (grant_at (kernel sheet) j) (kernel_is_held sheet i l)
    (kernel_is_held sheet j (lt_trans k l)) e)
    (kernel_users_rise sheet) (length (kernel sheet)) (le_refl (length (kernel sheet)))

without_by_user : (sheet : Sheet) → best_grouping sheet (kernel sheet) ≡ fewer (by_fit sheet (kernel sheet))
    (by_permission (kernel sheet))
without_by_user sheet =
    rw (le-leb (used (fewer (by_fit sheet (kernel sheet)) (by_permission (kernel sheet))))
    (used (by_user (kernel sheet)))
    (le_trans (fewer_le_earlier (by_fit sheet (kernel sheet)) (by_permission (kernel sheet))) (by_user_no_fewer sheet)))

module _ {rows : List ℕ} {users : ℕ} {sheet : Sheet} (shown : Shown rows users sheet) (cells : List ℕ) where
  grouping_by_fit : grouping (fit_at_cells rows cells) (length cells) ≡ grouping (fit_at sheet (map grant_of cells))
      (length cells)
  grouping_by_fit =
      grouping_ext (fit_at_cells rows cells) (fit_at sheet (map grant_of cells)) (length cells)
      (λ i j k l. fit_at_grants shown cells i j l (lt_trans k l))

  grouping_by_permission : by_key (permission_at_cell cells) (length cells) ≡ grouping
      (permission_at (map grant_of cells)) (length cells)
  grouping_by_permission =
      grouping_ext (same_key (permission_at_cell cells)) (permission_at (map grant_of cells)) (length cells)
      (λ i j k l. rw (grant_at_cell cells i l, grant_at_cell cells j (lt_trans k l)))

  module _ (of_kernel : map grant_of cells ≡ kernel sheet) where
    -- each of them is held
    pub held_cells : HeldCells rows cells
    held_cells i l =
        shown.cells.shows (user_at_cell cells i) (permission_at_cell cells i) (mod-lt (get_or cells i 0) row_bits_pos)
        ∙ (rw (grant_at_cell cells i l) at (held (map grant_of cells) of_kernel (rw (length-map cells grant_of) l)))
      where
        held : (grants : List Grant) → grants ≡ kernel sheet → i < length grants → Held sheet (grant_at grants i)
        held grants e k = rw e (kernel_is_held sheet i (rw e at k))

    -- the first best of the two that can be
    pub best_of_cells : fewer (grouping (fit_at_cells rows cells) (length cells)) (by_key (permission_at_cell cells)
        (length cells)) ≡ first_best sheet
    unfolding first_best
    best_of_cells =
        rw (grouping_by_fit, grouping_by_permission, sym (length-map cells grant_of), of_kernel)
        (sym (without_by_user sheet))

-- without grants there is no class
pub none_to_place : (sheet : Sheet) (classes : List ℕ) → [] ≡ kernel sheet → Placed (first_best sheet) classes
    (length (kernel sheet)) 0
unfolding first_best
none_to_place sheet classes e = rw (sym e) (none_placed classes)

-- as many as the kernel's
pub placed_of_kernel : (sheet : Sheet) (cells classes : List ℕ) (count : ℕ) → map grant_of cells ≡ kernel sheet
    → Placed (first_best sheet) classes (length cells) count → Placed (first_best sheet) classes
    (length (kernel sheet)) count
placed_of_kernel sheet cells classes count e p = rw (sym (length-map cells grant_of) ∙ ap length e) at p
