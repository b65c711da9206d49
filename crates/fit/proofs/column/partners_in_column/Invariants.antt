-- `fit::column::partners_in_column`: after j words of the column the grants near the grant are counted, of the users
-- that they name, or most are counted already.
use Rattle.std.proofs.Common.{◌*◌, ◌%◌}
use Rattle.bits.specs.Bit.{word_bits}
use Rattle.cell_rows.specs.Rows.{row_bits}
use Rattle.cell_rows.specs.CellPlaces.{CountedBelow}
use Rattle.fit.specs.Laws.Column.{column_sum}
use Rattle.fit.proofs.column.partners_in_column.Given as goal

abbrev pub invariant-loop-j : goal.invariant-loop-j
invariant-loop-j l =
    CountedBelow l.most (column_sum l.rows l.left l.it.0 (l.it.0 % row_bits) (l.j * word_bits)) l.n
