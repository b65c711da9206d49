-- `line_cells::is_cell`: the three tests in turn.
use borrow.Author.Tests.{eq-eqb, ne_eqb}
use Rattle.cells_read.proofs.line_cells.is_cell.Statement.{statement}
use Rattle.cells_read.proofs.line_cells.is_cell.Tie as tie

returns : tie.Need-returns-then-before-ne-COMMA
returns c = rw (ne_eqb _ _ c.if-before-ne-COMMA.true)

returns_2 : tie.Need-returns-then-cell-eq48
returns_2 c = rw (eq-eqb _ _ c.if-before-ne-COMMA.false, eq-eqb _ _ c.if-cell-eq48.true)

returns_3 : tie.Need-returns
returns_3 c = rw (eq-eqb _ _ c.if-before-ne-COMMA.false, ne_eqb _ _ c.if-cell-eq48.false)

pub is_cell_spec : {M : Type 1} → statement M
is_cell_spec =
    tie.close (tie.spec returns returns_2 returns_3)
