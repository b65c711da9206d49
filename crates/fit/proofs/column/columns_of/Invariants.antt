-- `fit::column::columns_of`: the first u users are in the columns of their permissions.
use Rattle.std.proofs.Common.{◌≡◌, ◌*◌, length}
use Rattle.cell_rows.specs.Rows.{row_bits}
use Rattle.fit.specs.Columns.{column_words}
use Rattle.fit.specs.ColumnsMade.{PutInBelow}
use Rattle.fit.proofs.column.columns_of.Given as goal

abbrev pub invariant-loop-u : goal.invariant-loop-u
invariant-loop-u l = record {
  sized : length l.columns ≡ row_bits * column_words;
  put_in : PutInBelow l.rows l.u l.columns;
}
