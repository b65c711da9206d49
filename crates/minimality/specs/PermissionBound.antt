-- Why there are never more roles than permissions: singles and the classes of the kernel by permission together are
-- at most as many as the sheet's permissions. Two held grants of one permission fit, and a single fits no other
-- single and nothing that remains; so each single has a permission of its own, which no grant of the kernel has. The
-- classes by permission are the kernel's permissions.
use Rattle.std.specs.Prelude.{ℕ, ◌+◌, ◌≤◌, ◌<◌, ◌≡◌, refl, ◌≢◌, false, eqb, length}
use Rattle.std.proofs.Common.{arith, sym, ⊎_elim, ne_eqb}
use mathlib.Core.List.Memᴰ
use mathlib.Core.List.{map, Memᴰ}
use Rattle.std.proofs.lemmas.List.{length-map}
use Rattle.spec.specs.Sheet.{Sheet, Grant, permission_count, grants}
use Rattle.spec.specs.Reduction.{kernel, singles}
use Rattle.spec.specs.Cover.{used, grouping, grant_at, permission_at, first_best}
use Rattle.bits.specs.Truth.{not_both}
use Rattle.bits.specs.Laws.Below.{none_below_intro}
use Rattle.lists.specs.Distinct.{Distinct, ordered_distinct, ordered_either, map_distinct, distinct_outside}
use Rattle.lists.specs.KeyLaws.{has_key, grouping_counts_keys}
use Rattle.cells.specs.Laws.Grant.{grant_held}
use Rattle.fit.specs.Laws.Fit.{one_permission_fits}
use Rattle.cells.specs.Laws.Number.{grant_at_member}
use Rattle.cover.specs.Laws.Cover.{best_le_by_permission}
use Rattle.minimality.specs.GrantClassing.{Even}
use Rattle.minimality.specs.RoleSets.{even_permission_below}
use Rattle.minimality.specs.Removals.{Unfit}
use Rattle.reduction.specs.Laws.RemovedGranted.{kernel_granted}
use Rattle.minimality.specs.Singles.{unfit_turned, single_granted, single_unfit_kernel, singles_apart}

-- the permission of a number of the kernel
abbrev kernel_permission : Sheet → ℕ → ℕ
kernel_permission sheet i = (grant_at (kernel sheet) i).permission

-- a grant's permission is one of the sheet's
permission_below : {sheet : Sheet} → Even sheet → {g : Grant} → Memᴰ g (grants sheet)
    → g.permission < permission_count sheet
permission_below {sheet} even {g} m = even_permission_below even g.user g.permission (grant_held sheet m)

-- grants that do not fit have different permissions
unfit_permissions_differ : (sheet : Sheet) {g h : Grant} → Memᴰ g (grants sheet) → Memᴰ h (grants sheet)
    → Unfit sheet g h
    → g.permission ≢ h.permission
unfit_permissions_differ sheet {g} {h} m n unfit e =
    not_both (one_permission_fits sheet g h (grant_held sheet m) (grant_held sheet n) e) unfit

-- no two singles have one permission
pub single_permissions_distinct : (sheet : Sheet) → Distinct (map (λ g. g.permission) (singles sheet))
single_permissions_distinct sheet =
    map_distinct (λ g. g.permission) (singles sheet)
    (ordered_distinct (Unfit sheet) (singles sheet) (λ g m e. unfit_permissions_differ sheet (single_granted sheet m)
    (single_granted sheet m) e refl)
    (singles_apart sheet))
    (λ g h m n e.
    ⊎_elim (λ same. same) (λ unfit. absurd (unfit_permissions_differ sheet (single_granted sheet m)
    (single_granted sheet n) unfit e))
    (ordered_either (Unfit sheet) (singles sheet) (unfit_turned sheet) (singles_apart sheet) m n))

-- and none has one of the kernel's
pub single_permission_not_kernel : (sheet : Sheet) {g : Grant} → Memᴰ g (singles sheet)
    → has_key (kernel_permission sheet) (length (kernel sheet)) g.permission ≡ false
single_permission_not_kernel sheet {g} m =
    none_below_intro (length (kernel sheet)) (λ i. eqb (kernel_permission sheet i) g.permission)
    (λ i l. ne_eqb (kernel_permission sheet i) g.permission (λ e. unfit_permissions_differ sheet
    (single_granted sheet m)
    (kernel_granted sheet (grant_at (kernel sheet) i) (grant_at_member (kernel sheet) i l))
    (single_unfit_kernel sheet m (grant_at_member (kernel sheet) i l)) (sym e)))

-- singles and the kernel's classes by permission are at most as many as the permissions
pub singles_and_permissions : {sheet : Sheet} → Even sheet
    → length (singles sheet) + used (grouping (permission_at (kernel sheet)) (length (kernel sheet))) ≤
    permission_count sheet
singles_and_permissions {sheet} even =
    omega (
      arith,
      length-map (singles sheet) (λ g. g.permission),
      grouping_counts_keys (kernel_permission sheet) (length (kernel sheet)) (permission_count sheet)
          (λ i l. permission_below even (kernel_granted sheet (grant_at (kernel sheet) i)
          (grant_at_member (kernel sheet) i l))),
      distinct_outside (permission_count sheet) (has_key (kernel_permission sheet) (length (kernel sheet)))
          (map (λ g. g.permission) (singles sheet)) (single_permissions_distinct sheet) outside,
    )
  where
    outside : (p : ℕ) → Memᴰ p (map (λ g. g.permission) (singles sheet))
        → (p < permission_count sheet) × (has_key (kernel_permission sheet) (length (kernel sheet)) p ≡ false)
    outside p m =
        let r = Memᴰ.of_map (λ g. g.permission) (singles sheet) m in
        rw (← r.2) (permission_below even (single_granted sheet r.1), single_permission_not_kernel sheet r.1)

-- and so are singles and the classes of the first best
pub singles_and_first_best : {sheet : Sheet} → Even sheet → length (singles sheet) + used (first_best sheet) ≤
    permission_count sheet
unfolding first_best
singles_and_first_best {sheet} even =
    omega (arith, singles_and_permissions even, best_le_by_permission sheet (kernel sheet))
