-- What follows for arrays that belong to a sheet: every cell in them is that of a grant, so it lies below the limit;
-- the classes by cell are the classes of all grants; and the roles of the listed grants in these classes are the
-- roles of the sheet.
use Rattle.std.specs.Prelude.{ℕ, ◌+◌, ◌*◌, ◌/◌, ◌%◌, ◌≤◌, ◌<◌, ◌≡◌, refl, Bool, true, false, cond, eqb, get_or}
use Rattle.std.proofs.Common.{mul_assoc, mul-le-mul_right, mod-lt, div-lt_iff_lt-mul, lt_of_lt_of_le, arith, sym, ap, ◌∙◌, eqb-true, lit<}
use mathlib.Core.List.Memᴰ
use mathlib.Core.List.{List, map, Memᴰ}
use Rattle.std.proofs.Math.ListN.{length}
use Rattle.spec.specs.Limits.{user_limit, grant_limit}
use Rattle.spec.specs.Sheet.{Sheet, Grant, grants}
use Rattle.spec.specs.Reduction.{single, tied, reduction, kernel}
use Rattle.spec.specs.Cover.{used}
use Rattle.spec.specs.Roles.{classes_of, roles_of}
use Rattle.bits.specs.Bit.{word_bits}
use Rattle.bits.specs.Counting.{Skipped}
use Rattle.bits.specs.Truth.{fails_unless}
use Rattle.lists.specs.ListOfLaws.{list_of_places, list_of_member, map_list_of}
use Rattle.lists.specs.LatestFirst.{latest_first}
use Rattle.cells.specs.Laws.Grant.{grant_held}
use Rattle.cell_rows.specs.Rows.{row_words, row_bits}
use Rattle.cell_rows.specs.CellPlaces.{cell_limit, grant_of, marked, Shown}
use Rattle.cell_rows.specs.Laws.Width.{row_bits_pos}
use Rattle.cells.specs.Laws.CellPlace.{cell_marked}
use Rattle.cells.specs.Laws.CellList.{cell_grants_by_cell}
use Rattle.cells.specs.KernelArray.{shown_roomy}
use Rattle.verdict.specs.Log.{removal_at}
use Rattle.verdict.specs.Laws.ReductionWork.{part_all}
use Rattle.reduction.specs.Laws.ReductionSettle.{all_remain}
use Rattle.reduction.specs.Laws.RemovedGranted.{RemovalOf, reduction_granted, kernel_granted, logged_removal}
use Rattle.product.specs.RoleRows.{RolesAt}
use Rattle.roles.specs.CellClasses.{ClassAt, ClassesAt, CellsBelow, UsersBelow, listed, reduction_in, classes_in}
use Rattle.roles.specs.Laws.GoingBack.{class_below}
use Rattle.roles.specs.RoleNumbers.{class_limit}
use Rattle.roles.specs.RoleWalk.{all_cells, ClassedRows, RolesTo, RolesFound}
use Rattle.roles.specs.RolesShown.{RolesOnly, matrices_show, matrices_only}
use Rattle.roles.specs.Laws.RoleWalk.{roles_skip}
use Rattle.roles.specs.Laws.RoleNumber.{role_numbers_by_class}
use Rattle.roles.specs.RolesInput.{Belongs}

-- ---- cells of grants

-- a cell whose grant is one of the sheet lies below the limit
pub granted_cell_below : {rows : List ℕ} {users : ℕ} {sheet : Sheet} → Shown rows users sheet → users ≤ user_limit
    → (n : ℕ)
    → Memᴰ (grant_of n) (grants sheet) → n < cell_limit
unfolding row_bits
granted_cell_below {sheet} shown few n m =
    rw (mul_assoc user_limit row_words word_bits)
    ((div-lt_iff_lt-mul row_bits_pos).0 (lt_of_lt_of_le (shown.few (n / row_bits) (n % row_bits) (grant_held sheet m))
    few))

-- the cells of a whole list, listed
pub listed_whole : (cells : List ℕ) → listed cells (length cells) ≡ map grant_of cells
listed_whole cells =
    sym (map_list_of grant_of (length cells) (λ i. get_or cells i 0)) ∙ ap (map grant_of) (list_of_places cells 0)

-- the cells of listed grants
pub listed_below : {rows : List ℕ} {users : ℕ} {sheet : Sheet} → Shown rows users sheet → users ≤ user_limit
    → (cells : List ℕ) (size : ℕ)
    → ((g : Grant) → Memᴰ g (listed cells size) → Memᴰ g (grants sheet)) → CellsBelow size cells
listed_below shown few cells size inside =
    record {
      below = λ i l.
          granted_cell_below shown few (get_or cells i 0)
          (inside (grant_of (get_or cells i 0)) (list_of_member size (λ j. grant_of (get_or cells j 0)) i l));
    }

-- ---- all grants, listed

module _ {rows : List ℕ} {users : ℕ} {sheet : Sheet} (shown : Shown rows users sheet) (few : users ≤ user_limit) where
  -- the rows show the sheet for as many users as there can be
  shown_all : Shown rows user_limit sheet
  shown_all =
      record {
        cells = shown.cells;
        few = λ u p h. lt_of_lt_of_le (shown.few u p h) few;
        short = shown.short;
      }

  all_listed : listed (all_cells rows) (length (all_cells rows)) ≡ grants sheet
  all_listed =
      listed_whole (all_cells rows) ∙ sym (cell_grants_by_cell shown_all (part_all rows)) ∙ all_remain shown_all

  -- past the users no cell is set
  none_past : Skipped (marked rows) (users * row_bits) (user_limit * row_bits)
  none_past n l k = fails_unless (marked rows n) (λ s.
      let held = rw (← cell_marked rows n, shown.cells.shows (n / row_bits) (n % row_bits) (mod-lt n row_bits_pos)) at
      s in
      omega (arith, (div-lt_iff_lt-mul row_bits_pos).0 (shown.few (n / row_bits) (n % row_bits) held)))

class_limit_pos : 0 < class_limit
unfolding grant_limit
class_limit_pos = lit< tt

module _ {rows : List ℕ} {users : ℕ} {cells placed : List ℕ} {total : ℕ} {removed partner : List ℕ} {sheet : Sheet}
    {placement : List ℕ} (belongs : Belongs rows users cells placed total removed partner sheet placement) where
  -- ---- the cells of the kernel and of the log

  kernel_whole : listed cells (length cells) ≡ kernel sheet
  kernel_whole = listed_whole cells ∙ belongs.kernel_listed

  pub kernel_below : CellsBelow (length cells) cells
  kernel_below =
      listed_below belongs.shown belongs.few_users cells (length cells)
      (λ g m. kernel_granted sheet g (rw kernel_whole at m))

  removal_granted : (i : ℕ) → i < length removed → RemovalOf (grants sheet) (removal_at removed partner i)
  removal_granted =
      logged_removal (grants sheet) removed partner (length removed)
      (rw belongs.log_held (reduction_granted sheet).removals)

  pub removed_below : CellsBelow (length removed) removed
  removed_below =
      record {
        below = λ i l.
            granted_cell_below belongs.shown belongs.few_users (get_or removed i 0)
            (it i (eqb (get_or removed i 0) (get_or partner i 0)) (removal_granted i l));
      }
    where
      it : (i : ℕ) (b : Bool)
          → RemovalOf (grants sheet) (cond b (single (grant_of (get_or removed i 0)))
          (tied (grant_of (get_or removed i 0)) (grant_of (get_or partner i 0))))
          → Memᴰ (grant_of (get_or removed i 0)) (grants sheet)
      it i true m = m
      it i false m = m.0

  pub partner_below : CellsBelow (length removed) partner
  partner_below =
      record {
        below = λ i l.
            granted_cell_below belongs.shown belongs.few_users (get_or partner i 0)
            (it i (eqb (get_or removed i 0) (get_or partner i 0)) refl (removal_granted i l));
      }
    where
      it : (i : ℕ) (b : Bool) → eqb (get_or removed i 0) (get_or partner i 0) ≡ b
          → RemovalOf (grants sheet) (cond b (single (grant_of (get_or removed i 0)))
          (tied (grant_of (get_or removed i 0)) (grant_of (get_or partner i 0))))
          → Memᴰ (grant_of (get_or partner i 0)) (grants sheet)
      it i true e m = Memᴰ.cast (ap grant_of (sym (eqb-true (get_or removed i 0) (get_or partner i 0) e))) m
      it i false e m = m.1

  -- ---- classes and roles

  -- the classes that the arrays say are those of all grants
  pub classes_belong : classes_in cells placed removed partner ≡ classes_of (reduction sheet) placement
  unfolding kernel
  classes_belong = rw (same, belongs.placement_held.so_far)
    where
      same : reduction_in cells removed partner ≡ reduction sheet
      same = λ i. record { remaining = kernel_whole i; removed = belongs.log_held i }

  module _ {class : List ℕ} {opened : ℕ} (at : ClassesAt class opened (classes_in cells placed removed partner)) where
    abbrev all : List ℕ
    all = all_cells rows

    whole : listed all (length all) ≡ grants sheet
    whole = all_listed belongs.shown belongs.few_users

    all_below : CellsBelow (length all) all
    all_below = listed_below belongs.shown belongs.few_users all (length all) (λ g m. rw whole at m)

    all_users_below : UsersBelow users (length all) all
    all_users_below =
        record {
          below = λ i l.
              belongs.shown.few (get_or all i 0 / row_bits) (get_or all i 0 % row_bits)
              (grant_held sheet (rw whole at (list_of_member (length all) (λ j. grant_of (get_or all j 0)) i l)));
        }

    all_class_at : ClassAt class (classes_of (reduction sheet) placement).members
    all_class_at = rw classes_belong at at.each

    pub classed_rows : ClassedRows rows class
    unfolding roles_of
    classed_rows =
        record {
          few = shown_roomy (shown_all belongs.shown belongs.few_users) (part_all rows) belongs.few_grants;
          in_table = λ n l. rw (at.each.shown n l) (class_below cells placed removed partner class_limit
              class_limit_pos counted (grant_of n));
          few_roles = rw (← role_numbers_by_class all_class_at (length all) all_below, whole) belongs.few_roles;
        }
      where
        counted : used (latest_first placed (length cells)) + length removed ≤ class_limit
        counted = rw (belongs.placement_held.so_far, ← belongs.placement_held.in_use)
            (omega (arith, belongs.few_classes, belongs.few_removals))

    module _ {has gives : List ℕ} {count : ℕ} (roles : RolesFound rows class (users * row_bits) has gives count) where
      found : RolesTo rows class (user_limit * row_bits) roles.table has gives count
      found =
          roles_skip (user_limit * row_bits) (mul-le-mul_right row_bits belongs.few_users)
          (none_past belongs.shown belongs.few_users) roles.found

      pub roles_shown : RolesAt has gives count users (roles_of sheet placement)
      unfolding roles_of
      roles_shown =
          rw whole at (matrices_show users all_class_at all_below found.numbered.placed classed_rows.few_roles
          found.has_shown found.gives_shown)

      pub roles_only : RolesOnly has gives count users
      roles_only = matrices_only found.numbered.placed all_users_below found.has_shown found.gives_shown
