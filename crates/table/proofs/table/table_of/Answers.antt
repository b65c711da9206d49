-- `table::table_of`: grant by grant its two words are put in; past the last grant the words stay 0, and nothing fits
-- there.
use Rattle.std.proofs.Common.{◌≡◌, ◌*◌, ◌<◌, ℕ, arith, ◌∙◌, eq-eqb}
use Rattle.std.proofs.lemmas.List.{length-take-le, get_or-take, length-set, length-replicate}
use Rattle.bits.specs.Laws.Below.{some_below_intro}
use Rattle.cell_rows.specs.Rows.{row_words, row_bits}
use Rattle.table.specs.TableWords.{table_row, table_limit}
use Rattle.table.specs.TableHeld.{own_user}
use Rattle.table.specs.Laws.Table.{table_of}
use Rattle.table.specs.Laws.TablePart.{nothing_filled, grant_filled, all_filled}
use Rattle.table.proofs.table.table_of.Goals as goal

pub loop-i-init : goal.loop-i-init
unfolding table_row
loop-i-init c = (
  length-replicate {A = ℕ} (table_limit * table_row) 0,
  own_user c.held_by-last.ensures,
  nothing_filled _ _,
)

pub loop-i-preserved : goal.loop-i-preserved
unfolding table_row row_bits row_words
loop-i-preserved c =
    let i = c.loop-i.i in
    let p = c.permission_of-p.result.0 in
    let few = c.limited-count.ensures in
    let there : i < c.limited-count.result =
    omega (arith, length-take-le c.limited-count.result c.args.cells.now few.0) in
    let same = rw get_or-take at c.permission_of-p.ensures in
    let held = rw get_or-take at c.held_again-last.ensures in
    let inside : p < row_bits = omega (arith, c.permission_of-p.ensures) in
    let wanted = c.permissions_among-some.ensures p ∙ some_below_intro _ _ {i = i} there (eq-eqb _ _ same) in (
      simp length-set c.loop-i.invariant.0,
      own_user held,
      grant_filled c.loop-i.invariant.2 (omega arith) (omega arith) c.loop-i.invariant.0 same held.low held.high
          (c.columns-low.ensures.column p inside wanted) (c.columns-high.ensures.column p inside wanted),
    )

pub returns : goal.returns
unfolding table_row
returns c users sheet shown =
    let few = c.limited-count.ensures in
    let end : c.loop-i.i ≡ c.limited-count.result =
    omega (arith, length-take-le c.limited-count.result c.args.cells.now few.0) in
    table_of _ _ c.loop-i.words (all_filled c.loop-i.invariant.2 (λ l. end ∙ few.2 (omega arith))) shown
