-- The witness by cells: the grants taken from the kernel and the singles together, in order, and as many cells as
-- there are of them.
use Rattle.std.specs.Prelude.{ℕ, ◌*◌, ◌≤◌, ◌≡◌, ◌||◌, length}
use Rattle.std.proofs.Common.{le_refl, le_trans, sym, subst, ◌∙◌}
use Rattle.std.proofs.Math.Path.{ap}
use Rattle.std.proofs.Math.Bool.{or_comm}
use mathlib.Core.List.{List, Memᴰ}
use Rattle.std.proofs.lemmas.List.{length-map}
use Rattle.spec.specs.Limits.{user_limit, grant_limit}
use Rattle.spec.specs.Sheet.{Sheet, Grant, grants}
use Rattle.spec.specs.Fit.{among}
use Rattle.spec.specs.Reduction as reduction
use Rattle.spec.specs.Witness.{taken, chosen, witness}
use Rattle.bits.specs.Counting.{count_below}
use Rattle.lists.specs.FilterLength.{filter_length}
use Rattle.lists.specs.FilterSame.{filter_same}
use Rattle.lists.specs.PassingBelow.{passing_below, passing_length}
use Rattle.cell_rows.specs.Rows.{row_bits}
use Rattle.cells.specs.Laws.Grant.{grant_held}
use Rattle.cells.specs.CellSets.{in_cells, cell_grants}
use Rattle.cell_rows.specs.CellPlaces.{grant_of, marked, Shown, Part, cells_of}
use Rattle.cells.specs.Laws.CellPlace.{cell_marked}
use Rattle.cells.specs.Laws.CellList.{cell_of, grant_of_cell, cell_grants_by_cell}
use Rattle.verdict.specs.Laws.Near.{row_cells}
use Rattle.witness.specs.Laws.WitnessTaken.{taken_enough}
use Rattle.witness.specs.WitnessGreedy.{Chosen}
use Rattle.witness.specs.WitnessSingles.{CellsOf}

-- the cells of the kernel and of the singles of a sheet
pub record ReducedTo (sheet : Sheet) (rows kernel singles : List ℕ) : Type 0 where
  pub kernel_part : Part kernel rows
  pub kernel_grants : cell_grants sheet kernel ≡ reduction.kernel sheet
  pub singles_part : Part singles rows
  pub singles_cells : CellsOf singles (reduction.singles sheet)
  pub few_grants : length (grants sheet) ≤ grant_limit

-- there is a sheet that the rows show, and these are the cells of its kernel and of its singles
pub record ReducedRows (rows : List ℕ) (users : ℕ) (kernel singles : List ℕ) : Type 0 where
  pub sheet : Sheet
  pub shown : Shown rows users sheet
  pub reduced : ReducedTo sheet rows kernel singles
  pub few_users : users ≤ user_limit

-- the cells of the witness, and w
pub record Witnessed (sheet : Sheet) (rows cells : List ℕ) (count : ℕ) : Type 0 where
  pub part : Part cells rows
  pub in_order : cell_grants sheet cells ≡ witness sheet
  pub counted : count ≡ length (witness sheet)

module _ {rows : List ℕ} {users : ℕ} {sheet : Sheet} (shown : Shown rows users sheet) where
  -- how many grants a set has
  pub cells_count : {left : List ℕ} → Part left rows → count_below (cells_of users) (marked left) ≡ length
      (cell_grants sheet left)
  cells_count {left} part =
      rw (row_cells users)
      (sym (passing_length (users * row_bits) (marked left))
      ∙ sym (length-map (passing_below (users * row_bits) (marked left)) grant_of)
      ∙ ap length (sym (cell_grants_by_cell shown part)))

  module _ {kernel singles : List ℕ} (reduced : ReducedTo sheet rows kernel singles) {cells : List ℕ}
      (chosen_cells : Chosen sheet rows kernel singles cells) where
    -- the choices do not run out
    all_chosen : taken sheet grant_limit (cell_grants sheet kernel) ≡ chosen sheet
    unfolding chosen
    all_chosen =
        taken_enough sheet grant_limit (length (cell_grants sheet kernel)) (cell_grants sheet kernel)
        (le_trans (filter_length (in_cells kernel) (grants sheet)) reduced.few_grants)
        (le_refl (length (cell_grants sheet kernel)))
        ∙ ap (λ l. taken sheet (length l) l) reduced.kernel_grants

    witness_part : Part cells rows
    witness_part = chosen_cells.part reduced.singles_part

    -- a grant of the sheet stands in the witness where its cell is set
    by_cell : (g : Grant) → Memᴰ g (grants sheet) → in_cells cells g ≡ (among (chosen sheet) g
        || among (reduction.singles sheet) g)
    by_cell g m =
        let e : grant_of (cell_of g) ≡ g = grant_of_cell g (shown.short g.user g.permission
        (grant_held sheet m)) in
        subst (λ h. in_cells cells h ≡ (among (chosen sheet) h || among (reduction.singles sheet) h)) e
        (cell_marked cells (cell_of g) ∙ chosen_cells.says (cell_of g)
        ∙ rw (all_chosen, reduced.singles_cells.cell (cell_of g))
        (or_comm (among (reduction.singles sheet) (grant_of (cell_of g)))
        (among (chosen sheet) (grant_of (cell_of g)))))

    witness_grants : cell_grants sheet cells ≡ witness sheet
    unfolding witness
    witness_grants = filter_same (in_cells cells) (λ g. among (chosen sheet) g || among (reduction.singles sheet) g)
        (grants sheet) by_cell

    pub witnessed : (count : ℕ) → count ≡ count_below (cells_of users) (marked cells) → Witnessed sheet rows cells count
    witnessed count e = record {
      part = witness_part;
      in_order = witness_grants;
      counted = e ∙ cells_count witness_part ∙ ap length witness_grants;
    }
