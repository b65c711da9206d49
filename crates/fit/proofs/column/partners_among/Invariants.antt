-- `fit::column::partners_among`: the positions that are left are the users still to be counted.
use Rattle.std.proofs.Common.{◌≡◌, ◌+◌}
use Rattle.fit.specs.Columns.{near_in_row}
use Rattle.fit.specs.Laws.Column.{word_sum}
use Rattle.fit.proofs.column.partners_among.Given as goal

abbrev pub invariant-loop-p : goal.invariant-loop-p
invariant-loop-p l =
    l.n + word_sum (λ q. near_in_row l.rows l.left l.it.0 (l.from + q)) l.p-iterator.left ≡ l.start + word_sum
    (λ q. near_in_row l.rows l.left l.it.0 (l.from + q)) l.some
