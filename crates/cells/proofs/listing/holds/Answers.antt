-- `cells::listing::holds`: past the words of the rows nobody holds anything.
use Rattle.std.proofs.Common.{sym, ◌∙◌, le-ltb}
use Rattle.cell_rows.specs.Rows.{row_words}
use Rattle.cells.specs.Laws.KernelFit.{unheld_past}
use Rattle.cells.proofs.listing.holds.Goals as goal

pub returns-else-i-rows : goal.returns-else-i-rows
unfolding row_words
returns-else-i-rows c =
    le-ltb _ _ c.if-i-rows.false ∙ sym (unheld_past c.args.rows.now c.args.u.0 c.args.p.0 c.if-i-rows.false)
