-- `witness::single_cells`: the removals are looked at in order, and each single puts its cell in.
use Rattle.std.proofs.Common.{◌≡◌, refl, arith, add-one, ne_eqb}
use Rattle.spec.specs.Limits.{user_limit}
use Rattle.cell_rows.specs.Rows.{row_words}
use Rattle.cell_rows.specs.CellPlaces.{cell_words}
use Rattle.witness.specs.WitnessSingles.{no_singles, single_put_in, tied_left_out}
use Rattle.witness.proofs.witness.single_cells.Goals as goal
use Rattle.witness.proofs.witness.single_cells.Goals.{then-at-partner, else-at-partner}

pub loop-i-init : goal.loop-i-init
unfolding user_limit row_words
loop-i-init c = (refl, no_singles c.args.removed.now c.args.partner.now cell_words)

pub put_cell-requires : goal.put_cell-requires
put_cell-requires c = (c.requires.1 c.loop-i.i c.loop-i-test.true, c.loop-i.invariant.0)

pub loop-i-preserved : goal.loop-i-preserved
loop-i-preserved c =
    let a = c.args in
    let at = c.loop-i in
    elim c.if-at-partner.branch [
      | then-at-partner w ↦ (
        rw w.cells-is w.put_cell.ensures.0,
        rw (w.cells-is, add-one at.i) (single_put_in a.removed.now a.partner.now at.i at.cells at.invariant.1
            w.if-at-partner.true _ w.put_cell.ensures.1),
      )
      | else-at-partner w ↦ (
        rw w.cells-is at.invariant.0,
        rw (w.cells-is, add-one at.i) (tied_left_out a.removed.now a.partner.now at.i at.cells at.invariant.1
            (ne_eqb _ _ w.if-at-partner.false)),
      )
    ]

pub returns : goal.returns
returns c =
    let end : c.loop-i.i ≡ c.args.count = omega arith in
    rw end at c.loop-i.invariant.1
