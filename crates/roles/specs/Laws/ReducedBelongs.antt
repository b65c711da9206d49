-- What the reduction and the list of the kernel's cells give belongs to the sheet that the rows show: the listed
-- cells are those that the reduction left, and the log is that of the reduction.
use Rattle.std.specs.Prelude.{ℕ, zero, suc, ◌≤◌, ◌≡◌, refl, List, length, take}
use Rattle.std.proofs.Common.{le_refl, le_of_lt, arith, sym, ◌∙◌, get_or-take, length-take-le}
use Rattle.spec.specs.Limits.{user_limit, grant_limit}
use Rattle.spec.specs.Sheet.{Sheet, grants}
use Rattle.spec.specs.Roles.{roles_of}
use Rattle.lists.specs.LatestFirst.{latest_first}
use Rattle.cell_rows.specs.Rows.{row_bits}
use Rattle.cell_rows.specs.CellPlaces.{Shown}
use Rattle.cover.specs.CoverPlaced.{Placed}
use Rattle.cells.specs.KernelArray.{Listed, listed_grants}
use Rattle.reduction.specs.ReductionResult.{ReducedFrom}
use Rattle.cells.specs.declared.listing.Kernel.{Kernel}
use Rattle.reduction.specs.declared.reduction.Reduced.{Reduced}
use Rattle.verdict.specs.Log.{log_of}
use Rattle.roles.specs.RolesInput.{Belongs}

-- the first classes and removals of a part are those of the whole
taken_first : (classes : List ℕ) (size n : ℕ) → n ≤ size → latest_first (take size classes) n ≡ latest_first classes n
taken_first classes size zero l = refl
taken_first classes size (suc n) l =
    rw (get_or-take size classes n 0 l, taken_first classes size n (le_of_lt l))

taken_log : (removed partner : List ℕ) (count n : ℕ) → n ≤ count
    → log_of (take count removed) (take count partner) n ≡ log_of removed partner n
taken_log removed partner count zero l = refl
taken_log removed partner count (suc n) l =
    rw (
      get_or-take count removed n 0 l,
      get_or-take count partner n 0 l,
      taken_log removed partner count n (le_of_lt l),
    )

module _ {rows : List ℕ} {users : ℕ} {sheet : Sheet} (shown : Shown rows users sheet) (few_users : users ≤ user_limit)
    (few_grants : length (grants sheet) ≤ grant_limit) where
  pub reduced_belongs : (reduced : Reduced) (kernel : Kernel) → ReducedFrom rows users reduced
      → Listed reduced.left users kernel.cells kernel.size → length kernel.cells ≡ grant_limit
      → {placement placed : List ℕ} {total : ℕ} → Placed placement placed kernel.size total
      → kernel.size ≤ length placed → total ≤ grant_limit
      → (roles_of sheet placement).count ≤ row_bits
      → Belongs rows users (take kernel.size kernel.cells) (take kernel.size placed) total
      (take reduced.count reduced.removed) (take reduced.count reduced.partner) sheet placement
  reduced_belongs reduced kernel from listed room {placed = placed} held enough few_classes few_roles =
      let sized = length-take-le kernel.size kernel.cells (rw room listed.few) in
      let logged = length-take-le reduced.count reduced.removed
      (omega (arith, from.room, from.logged.removed_length)) in
      record {
        shown = shown;
        few_users = few_users;
        few_grants = few_grants;
        kernel_listed = listed_grants shown from.part listed ∙ from.remaining sheet shown;
        each_placed = length-take-le kernel.size placed enough ∙ sym sized;
        placement_held = rw sized (record {
          so_far = taken_first placed kernel.size kernel.size (le_refl _)
              ∙ held.so_far;
          in_use = held.in_use;
        });
        few_classes = few_classes;
        log_held =
            rw logged (taken_log reduced.removed reduced.partner reduced.count reduced.count (le_refl _)
            ∙ from.removals sheet shown);
        each_partner =
            length-take-le reduced.count reduced.partner
            (omega (arith, from.room, from.logged.partner_length)) ∙ sym logged;
        few_removals = rw logged (omega (arith, from.room));
        few_roles = few_roles;
      }
