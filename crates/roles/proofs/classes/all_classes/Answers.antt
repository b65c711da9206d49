-- `roles::all_classes`: while i removals are left, going back over them from the classes so far leads to the classes
-- of all grants. Each turn goes back over the latest that is left, and opens at most one class. The class at the cell
-- written last is known, so a grant tied to that one joins it without a look at the array.
use Rattle.std.proofs.Common.{◌≡◌, ◌-◌, ◌<◌, refl, sym, ◌∙◌, arith, get_or, set, get_or-set_same}
use Rattle.spec.specs.Limits.{grant_limit}
use Rattle.spec.specs.Roles.{Classes, put_back}
use Rattle.cell_rows.specs.CellPlaces.{cell_limit}
use Rattle.verdict.specs.Log.{removal_of}
use Rattle.roles.specs.CellClasses.{ClassesAt}
use Rattle.roles.specs.Laws.CellClass.{single_written, tied_written}
use Rattle.roles.specs.Laws.GoingBack.{going_back_starts, going_back_on, going_back_ends}
use Rattle.roles.proofs.classes.all_classes.Goals as goal
use Rattle.roles.proofs.classes.all_classes.Goals.{then-cell-tie, else-cell-tie+then-tie-last, else-cell-tie+else-tie-last}

pub loop-i-init : goal.loop-i-init
loop-i-init c =
    let a = c.args in (
      omega arith,
      refl,
      going_back_starts a.kernel.now a.placed.now a.removed.now a.partner.now c.place_kernel.ensures
          c.requires.total_value.0,
    )

pub overflow_cast-known : goal.overflow_cast-known
unfolding grant_limit
overflow_cast-known c = omega arith

pub overflow_add-opened : goal.overflow_add-opened
unfolding grant_limit
overflow_add-opened c = omega arith

pub loop-i-preserved : goal.loop-i-preserved
loop-i-preserved c =
    let a = c.args in
    let inv = c.loop-i.invariant in
    let cell = get_or a.removed.now (c.loop-i.i - 1) 0 in
    let tied_to = get_or a.partner.now (c.loop-i.i - 1) 0 in
    let within : cell < cell_limit = c.requires.removed_len_bound.2.below (c.loop-i.i - 1) (omega arith) in
    let partner_within : tied_to < cell_limit =
    c.requires.removed_len_bound.3.below (c.loop-i.i - 1) (omega arith) in
    let written : (classes : Classes) → ClassesAt c.loop-i.class c.loop-i.opened classes
    → ClassesAt (set c.loop-i.class cell c.if-cell-tie.known) c.if-cell-tie.opened
    (put_back (removal_of cell tied_to) classes) =
    λ classes at. elim c.if-cell-tie.branch [
      | then-cell-tie w ↦ single_written cell tied_to within at w.if-cell-tie.true w.opened-is w.known-is
      | else-cell-tie+then-tie-last w ↦
          tied_written cell tied_to within at w.if-cell-tie.false partner_within w.opened-is w.known-is
      | else-cell-tie+else-tie-last w ↦
          let to_last : tied_to ≡ c.loop-i.last = w.if-tie-last.false in
          tied_written cell tied_to within at w.if-cell-tie.false partner_within w.opened-is
          (rw to_last (w.known-is ∙ inv.1))
    ] in
    let on = going_back_on a.removed.now a.partner.now c.loop-i.i c.loop-i-test.true written inv.2 in (
      omega (arith, on.1),
      sym (get_or-set_same c.loop-i.class cell c.if-cell-tie.known 0 (rw inv.2.at.each.wide within)),
      on.0,
    )

pub returns : goal.returns
returns c =
    let a = c.args in
    going_back_ends a.removed.now a.partner.now c.loop-i.i (omega arith) c.loop-i.invariant.2
