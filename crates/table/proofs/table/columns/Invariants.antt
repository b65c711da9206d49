-- `table::columns`: permission by permission, its column is made where it is in the row.
use Rattle.table.specs.TableParts.{ColumnsOf}
use Rattle.table.proofs.table.columns.Given as goal

abbrev pub invariant-loop-p : goal.invariant-loop-p
invariant-loop-p l = ColumnsOf l.rows l.cells l.from l.some l.p l.word-items
