-- `fit::column::union_of`: the columns of the permissions at the positions that are left are still to be joined.
use Rattle.fit.specs.Laws.ColumnUnion.{Joining}
use Rattle.fit.proofs.column.union_of.Given as goal

abbrev pub invariant-loop-p : goal.invariant-loop-p
invariant-loop-p l = Joining l.columns l.word l.k l.j l.some l.p-iterator.left
