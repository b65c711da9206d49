-- How a reduction finds what there is to find of a sheet that the rows show: the cells that it left are those of the
-- sheet's kernel, and the cells logged as single are those of its singles.
use Rattle.std.specs.Prelude.{ℕ, ◌*◌, ◌≤◌, ◌≡◌, List, map, length, take}
use Rattle.std.proofs.Common.{sym, ap, ◌∙◌, length-take-le}
use Rattle.std.proofs.lemmas.List.{length-map}
use Rattle.spec.specs.Limits.{grant_limit}
use Rattle.spec.specs.Sheet.{Sheet, grants}
use Rattle.spec.specs.Reduction.{kernel, singles, singles_of}
use Rattle.cell_rows.specs.Rows.{row_bits}
use Rattle.cell_rows.specs.CellPlaces.{grant_of, Shown, Shows}
use Rattle.reduction.specs.ReductionResult.{ReducedFrom, log_in}
use Rattle.cells.specs.KernelArray.{Roomy, Listed, KernelListed, shown_roomy, listed_grants}
use Rattle.cover.specs.CoverPlaced.{Placed}
use Rattle.witness.specs.WitnessRows.{ReducedTo, ReducedRows}
use Rattle.witness.specs.WitnessSingles.{CellsOf, grants_part}
use Rattle.reduction.specs.declared.reduction.Reduced.{Reduced}
use Rattle.minimality.specs.Singles.{single_granted}

-- what the reduction of the grants that the rows show left and logged
module _ {rows : List ℕ} {users : ℕ} {reduced : Reduced} (from : ReducedFrom rows users reduced) {sheet : Sheet}
    (shown : Shown rows users sheet)
    (few : length (grants sheet) ≤ grant_limit) where
  -- there is room for the cells that are left
  pub kernel_roomy : Roomy reduced.left (users * row_bits)
  kernel_roomy = shown_roomy shown from.part few

  -- they are, in order, the kernel's
  pub kernel_cells : {cells : List ℕ} {size : ℕ} → Listed reduced.left users cells size
      → map grant_of (take size cells) ≡ kernel sheet
  kernel_cells listed = listed_grants shown from.part listed ∙ from.remaining sheet shown

  pub kernel_listed : {cells : List ℕ} {size : ℕ} → Listed reduced.left users cells size → KernelListed rows cells
      size
  kernel_listed listed =
      record { users = users; sheet = sheet; shown = shown; kernel_cells = kernel_cells listed; few = listed.few }

  pub kernel_counted : {cells : List ℕ} {size : ℕ} → Listed reduced.left users cells size
      → length cells ≡ grant_limit
      → size ≡ length (kernel sheet)
  kernel_counted {cells} {size} listed room =
      sym (length-take-le size cells (rw room listed.few)) ∙ sym (length-map (take size cells) grant_of)
      ∙ ap length (kernel_cells listed)

  -- so a placement of the kernel is one of the cells in the array
  pub kernel_placed : {cells : List ℕ} {size : ℕ} → Listed reduced.left users cells size → length cells ≡ grant_limit
      → {placement classes : List ℕ} {count : ℕ} → Placed placement classes (length (kernel sheet)) count
      → Placed placement classes size count
  kernel_placed listed room placed = rw (kernel_counted listed room) placed

  -- the cells logged as single are the singles'
  single_cells : {cells : List ℕ} → CellsOf cells (singles_of (log_in reduced)) → CellsOf cells (singles sheet)
  unfolding singles
  single_cells logged = rw (from.removals sheet shown) at logged

  pub reduced_to : {cells : List ℕ} → CellsOf cells (singles_of (log_in reduced))
      → ReducedTo sheet rows reduced.left cells
  reduced_to logged =
      record {
        kernel_part = from.part;
        kernel_grants = from.remaining sheet shown;
        singles_part = grants_part shown (single_cells logged) (λ g m. single_granted sheet m);
        singles_cells = single_cells logged;
        few_grants = few;
      }

-- so the rows, with the cells of the kernel and of the singles, are those of a sheet
pub reduced_rows : {rows : List ℕ} {users : ℕ} {reduced : Reduced} (given : Shows rows users) → ReducedFrom rows users
    reduced
    → {cells : List ℕ} → CellsOf cells (singles_of (log_in reduced)) → ReducedRows rows users reduced.left cells
reduced_rows given from logged =
    record {
      sheet = given.sheet;
      shown = given.shown;
      reduced = reduced_to from given.shown given.few_grants logged;
      few_users = given.few_users;
    }
