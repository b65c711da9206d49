-- The roles of a sheet. A whole placement of the kernel, put back, classes all grants: so its roles multiply to the
-- sheet, and there are as many as the placement has classes and the sheet has singles. No role set has fewer roles
-- than the witness has grants, and none has fewer than the smallest classing of the kernel has classes and the sheet
-- has singles. With the first best as the start there are never more roles than permissions.
use Rattle.std.specs.Prelude.{ℕ, ◌+◌, ◌≤◌, ◌≡◌, List, length}
use Rattle.std.proofs.Common.{arith, sym, ◌∙◌}
use Rattle.spec.specs.Sheet.{Sheet, permission_count, grants}
use Rattle.spec.specs.Reduction.{reduction, kernel, singles}
use Rattle.spec.specs.Witness.{witness}
use Rattle.spec.specs.Cover.{used, grant_at, first_best}
use Rattle.spec.specs.RoleSet.{RoleSet, Multiplies}
use Rattle.spec.specs.Roles.{classes_of, roles_of, kernel_of}
use Rattle.cover.specs.Laws.Cover.{best_grouping_length, best_grouping_grown, best_grouping_valid}
use Rattle.search.specs.Laws.SoundState.{Whole}
use Rattle.search.specs.Laws.Complete.{Smallest}
use Rattle.minimality.specs.GrantClassing.{Even}
use Rattle.minimality.specs.RoleSets.{role_set_classes, independent_bounds_role_sets}
use Rattle.minimality.specs.ClassRoles.{classes_multiply, role_count_is_class_count}
use Rattle.minimality.specs.PlacementClasses.{classing_of_numbers, placement_classes, placed_class_has_a_grant}
use Rattle.minimality.specs.KernelLaws.{kernel_held, kernel_different}
use Rattle.minimality.specs.ReductionKeeps.{kernel_keeps_a_classing}
use Rattle.minimality.specs.PuttingBack.{ClassesOf, AllInUse, putting_back_classes, putting_back_counts}
use Rattle.minimality.specs.PuttingBack.{putting_back_fills}
use Rattle.minimality.specs.WitnessLaws.{witness_granted, witness_independent}
use Rattle.minimality.specs.PermissionBound.{singles_and_first_best}

-- ---- a whole placement of the kernel

-- the first best is one
pub first_best_whole : (sheet : Sheet) → Whole (kernel_of sheet) (first_best sheet)
unfolding kernel_of first_best
first_best_whole sheet =
    record {
      size = best_grouping_length sheet (kernel sheet);
      valid = best_grouping_valid sheet (kernel sheet) (λ g m. kernel_held sheet m);
      grown = best_grouping_grown sheet (kernel sheet);
    }

pub whole_classes : (sheet : Sheet) (placed : List ℕ) → Whole (kernel_of sheet) placed
    → ClassesOf sheet (grants sheet) (classes_of (reduction sheet) placed)
unfolding kernel_of
whole_classes sheet placed w =
    putting_back_classes sheet placed (sym w.size)
    (placement_classes sheet (kernel sheet) placed (sym w.size) (kernel_different sheet)
    (λ g m. kernel_held sheet m) w.valid)

pub whole_fills : (sheet : Sheet) (placed : List ℕ) → Whole (kernel_of sheet) placed
    → AllInUse (grants sheet) (classes_of (reduction sheet) placed)
unfolding kernel_of
whole_fills sheet placed w =
    putting_back_fills sheet placed
    (placed_class_has_a_grant sheet (kernel sheet) placed (sym w.size) (kernel_different sheet) w.grown)

-- its roles multiply to the sheet
pub roles_multiply : (sheet : Sheet) (placed : List ℕ) → Whole (kernel_of sheet) placed
    → Multiplies (roles_of sheet placed) sheet
unfolding roles_of
roles_multiply sheet placed w =
    let classes = classes_of (reduction sheet) placed in
    classes_multiply sheet classes.members classes.count (whole_classes sheet placed w).classing

-- they are as many as its classes and the singles
pub roles_counted : (sheet : Sheet) (placed : List ℕ) → Whole (kernel_of sheet) placed
    → (roles_of sheet placed).count ≡ used placed + length (singles sheet)
unfolding roles_of
roles_counted sheet placed w =
    let classes = classes_of (reduction sheet) placed in
    role_count_is_class_count (grants sheet) classes.members classes.count
    (whole_classes sheet placed w).classing.within
    (whole_fills sheet placed w) ∙ putting_back_counts sheet placed

-- ---- how few roles a role set can have

-- as many as the witness has grants
pub witness_bounds_role_sets : {roles : RoleSet} {sheet : Sheet} → Even sheet → Multiplies roles sheet
    → length (witness sheet) ≤ roles.count
witness_bounds_role_sets {roles} {sheet} even multiplies =
    independent_bounds_role_sets even (witness sheet) (witness_independent sheet) (λ g m. witness_granted sheet m)
    multiplies

-- as many as the smallest classing of the kernel has classes, and the singles
pub smallest_bounds_role_sets : {roles : RoleSet} {sheet : Sheet} (placed : List ℕ) → Even sheet
    → Smallest (kernel_of sheet) placed
    → Multiplies roles sheet → used placed + length (singles sheet) ≤ roles.count
unfolding kernel_of
smallest_bounds_role_sets {roles} {sheet} placed even smallest multiplies =
    let left = kernel_keeps_a_classing sheet (role_set_classes even multiplies) in
    omega (
      arith,
      left.spared,
      smallest left.rest (λ i. left.class (grant_at (kernel sheet) i)) (classing_of_numbers left.classing),
    )

-- ---- how many roles there can be

-- a placement no worse than the first best has no more roles than the sheet has permissions
pub roles_le_permissions : {sheet : Sheet} (placed : List ℕ) → Even sheet → Whole (kernel_of sheet) placed
    → used placed ≤ used (first_best sheet) → (roles_of sheet placed).count ≤ permission_count sheet
roles_le_permissions {sheet} placed even w better =
    omega (arith, roles_counted sheet placed w, singles_and_first_best even)
