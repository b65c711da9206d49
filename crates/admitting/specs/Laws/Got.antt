-- The roles that a user gets, one after the other: the next is put in the row exactly where the user holds all of its
-- permissions.
use Rattle.std.specs.Prelude.{ℕ, ◌+◌, ◌≡◌, Bool, false, ◌||◌, List, eqb, replicate}
use Rattle.std.proofs.Common.{arith, ap, ◌∙◌, le-ltb}
use Rattle.std.proofs.Math.Bool.{So}
use Rattle.cell_rows.specs.CellAdded.{PositionSet}
use Rattle.cell_rows.specs.RowHeld.{holds_row}
use Rattle.cells.specs.Laws.MadeCells.{no_cells}
use Rattle.cells.specs.Laws.NextBelow.{next_passes, next_fails}
use Rattle.admitting.specs.RolesGot.{RolesGot}

module _ {rows gives : List ℕ} {u : ℕ} where
  pub none_got : (count : ℕ) → RolesGot rows gives u 0 (replicate count 0)
  none_got count = record { shows = λ r. rw (le-ltb r 0 (omega arith)) (no_cells count r) }

  pub next_got : {got after : List ℕ} {n : ℕ} → RolesGot rows gives u n got → So (holds_row rows gives u n)
      → PositionSet got after n → RolesGot rows gives u (n + 1) after
  next_got {n = n} so_far held put =
      record {
        shows = λ r. put.shows r ∙ ap (λ (b : Bool). b || eqb r n) (so_far.shows r)
            ∙ next_passes (holds_row rows gives u) r n held;
      }

  pub next_not_got : {got : List ℕ} {n : ℕ} → RolesGot rows gives u n got → holds_row rows gives u n ≡ false
      → RolesGot rows gives u (n + 1) got
  next_not_got {n = n} so_far lacking =
      record { shows = λ r. so_far.shows r ∙ next_fails (holds_row rows gives u) r n lacking }
