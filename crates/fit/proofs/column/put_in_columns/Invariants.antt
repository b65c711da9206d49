-- `fit::column::put_in_columns`: the positions that are left are those still to be put in.
use Rattle.fit.specs.ColumnsMade.{PuttingIn}
use Rattle.fit.proofs.column.put_in_columns.Given as goal

abbrev pub invariant-loop-p : goal.invariant-loop-p
invariant-loop-p l = PuttingIn l.u l.k l.some l.p-iterator.left l.initial.columns l.columns
