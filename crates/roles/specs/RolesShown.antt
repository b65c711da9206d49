-- The roles of some grants in classes, from their numbers and the two matrices: the matrices are those of the grants
-- paired with their role numbers, and a role number is below the count, so where the count is no more than a row's
-- bits the rows have room for every role.
use Rattle.std.specs.Prelude.{ℕ, ◌/◌, ◌≤◌, ◌<◌, ◌≡◌, false, List, length, get_or}
use Rattle.std.proofs.Common.{lt_of_lt_of_le, arith, sym, ap, ◌∙◌}
use Rattle.spec.specs.Cover.{used}
use Rattle.spec.specs.Roles.{Classed, roles_of_classes}
use Rattle.bits.specs.Truth.{fails_unless}
use Rattle.lists.specs.ListOfLaws.{length_list_of, getD_list_of}
use Rattle.lists.specs.PlacementLaws.{class_below_used}
use Rattle.lists.specs.LatestFirst.{latest_first, latest_first_length}
use Rattle.lists.specs.KeyLaws.{by_key}
use Rattle.cell_rows.specs.Rows.{row_bits, cell}
use Rattle.cell_rows.specs.CellPlaces.{grant_of}
use Rattle.cover.specs.CoverPlaced.{Placed}
use Rattle.product.specs.RoleRows.{RolesAt}
use Rattle.roles.specs.CellClasses.{ClassAt, CellsBelow, UsersBelow, listed, paired_in}
use Rattle.roles.specs.Laws.Role.{has_role_elim, gives_permission_elim}
use Rattle.roles.specs.RoleNumbers.{class_key}
use Rattle.roles.specs.Laws.RoleNumber.{role_numbers_by_class}
use Rattle.roles.specs.RoleMatrices.{has_role, gives_permission, CellsShow}

-- nothing else is set: no cell of a user past these, and none of a role past the count
pub record RolesOnly (has gives : List ℕ) (count users : ℕ) : Type 0 where
  pub no_user : (u r : ℕ) → users ≤ u → r < row_bits → cell has u r ≡ false
  pub no_role : (u r : ℕ) → count ≤ r → r < row_bits → cell has u r ≡ false
  pub no_giver : (r p : ℕ) → count ≤ r → p < row_bits → cell gives r p ≡ false

-- what the two matrices and the count show
pub matrices_show : {class cells roles has gives : List ℕ} {members : List Classed} {size count : ℕ} (users : ℕ)
    → ClassAt class members → CellsBelow size cells → Placed (by_key (class_key class cells) size) roles size count
    → used (by_key (class_key class cells) size) ≤ row_bits → CellsShow has (has_role (paired_in cells roles size))
    → CellsShow gives (gives_permission (paired_in cells roles size))
    → RolesAt has gives count users (roles_of_classes (listed cells size) members)
matrices_show {cells} {roles} {size} users at below placed few has gives =
    let room : used (latest_first roles size) ≤ row_bits = rw placed.so_far few in
    rw (role_numbers_by_class at size below, ← placed.so_far)
    (record {
      rows = record {
        few = room;
        has_shown = λ u r k l. has.shown u r (lt_of_lt_of_le l room);
        gives_shown = λ r p k l. gives.shown r p l;
      };
      total = placed.in_use ∙ ap used (sym placed.so_far);
    })

-- and what else they have set: nothing, since every cell that is set comes from a grant, which has one of the users
-- and a role below the count
module _ {cells roles has gives numbers : List ℕ} {size count users : ℕ} (placed : Placed numbers roles size count)
    (below : UsersBelow users size cells)
    (has_cells : CellsShow has (has_role (paired_in cells roles size)))
    (gives_cells : CellsShow gives (gives_permission (paired_in cells roles size))) where
  whole : length (listed cells size) ≡ length (latest_first roles size)
  whole = length_list_of size (λ i. grant_of (get_or cells i 0)) ∙ sym (latest_first_length roles size)

  counted : count ≡ used (latest_first roles size)
  counted = placed.in_use ∙ ap used (sym placed.so_far)

  pub matrices_only : RolesOnly has gives count users
  matrices_only =
      record {
        no_user = λ u r past l. has_cells.shown u r l ∙ fails_unless (has_role (paired_in cells roles size) u r) (λ s.
            let found = has_role_elim (listed cells size) (latest_first roles size) count whole u r s in
            let within : found.number < size = rw (latest_first_length roles size) at found.within in
            let user : get_or cells found.number 0 / row_bits ≡ u =
            rw (getD_list_of size (λ i. grant_of (get_or cells i 0)) found.number
            (record { user = 0; permission = 0 }) within) at found.valued in
            omega (arith, below.below found.number within, user));
        no_role = λ u r past l. has_cells.shown u r l ∙ fails_unless (has_role (paired_in cells roles size) u r) (λ s.
            let found = has_role_elim (listed cells size) (latest_first roles size) count whole u r s in
            omega (arith, class_below_used (latest_first roles size) found.within, found.of_role, counted));
        no_giver = λ r p past l. gives_cells.shown r p l
            ∙ fails_unless (gives_permission (paired_in cells roles size) r p) (λ s.
            let found = gives_permission_elim (listed cells size) (latest_first roles size) count whole r p s in
            omega (arith, class_below_used (latest_first roles size) found.within, found.of_role, counted));
      }
