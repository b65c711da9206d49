-- `fit::column::put_row`: after k words of the row, the user is in the columns of their permissions.
use Rattle.fit.specs.ColumnsMade.{PutWords}
use Rattle.fit.proofs.column.put_row.Given as goal

abbrev pub invariant-loop-k : goal.invariant-loop-k
invariant-loop-k l = PutWords l.rows l.user.0 l.k l.initial.columns l.columns
