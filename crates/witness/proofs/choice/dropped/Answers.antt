-- `choice::dropped`: a word of left without the fitting word of the grant has the cells of left that do not fit it.
use Rattle.std.proofs.Common.{◌≡◌, ◌*◌, refl, arith, length-set}
use Rattle.spec.specs.Limits.{user_limit}
use Rattle.cell_rows.specs.Rows.{row_words}
use Rattle.cell_rows.specs.CellPlaces.{cell_words}
use Rattle.witness.specs.WitnessCells.{left_over_word}
use Rattle.cells.specs.Laws.MadeCells.{none_made, one_made, all_made}
use Rattle.witness.proofs.choice.dropped.Goals as goal

pub loop-i-init : goal.loop-i-init
unfolding user_limit row_words
loop-i-init c = (refl, none_made _ cell_words)

pub loop-i-preserved : goal.loop-i-preserved
unfolding user_limit row_words
loop-i-preserved c =
    let a = c.args in
    let at = c.loop-i in (
      simp length-set at.invariant.0,
      one_made _ at.i at.words _ at.invariant.1 (omega arith)
          (left_over_word a.rows.now a.left.now a.it.0 at.i _ _ c.fitting.ensures c.apart.ensures.1),
    )

pub returns : goal.returns
unfolding row_words
returns c =
    let a = c.args in
    let at = c.loop-i in
    let end : at.i ≡ a.users * row_words = omega arith in
    rw end at (all_made _ at.i at.words at.invariant.1)
