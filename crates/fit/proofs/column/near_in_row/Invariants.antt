-- `fit::column::near_in_row`: the first k words of the row are counted.
use Rattle.std.proofs.Common.{◌≡◌}
use Rattle.fit.specs.Laws.Column.{near_words}
use Rattle.fit.proofs.column.near_in_row.Given as goal

abbrev pub invariant-loop-k : goal.invariant-loop-k
invariant-loop-k l = l.n ≡ near_words l.rows l.left l.it.0 l.row l.k
