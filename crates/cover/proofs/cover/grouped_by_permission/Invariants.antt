-- `cover::grouped_by_permission`: after d turns the first d grants have the classes that the grouping by permission
-- gives them, and the table has the classes of their permissions.
use Rattle.cell_rows.specs.Rows.{row_bits}
use Rattle.cover.specs.CoverRelation.{permission_at_cell}
use Rattle.cover.specs.CoverKeys.{Keyed}
use Rattle.cover.proofs.cover.grouped_by_permission.Given as goal

abbrev pub invariant-loop-d : goal.invariant-loop-d
invariant-loop-d l = Keyed (permission_at_cell l.cells) l.d row_bits row_bits l.table l.classes l.count
