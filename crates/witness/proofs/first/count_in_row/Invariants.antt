-- `first::count_in_row`: the words of the row are passed one after the other.
use Rattle.std.proofs.Common.{◌%◌}
use Rattle.cell_rows.specs.Rows.{row_bits}
use Rattle.witness.specs.CountChange.{ChangedAt}
use Rattle.witness.specs.FirstCounts.{gathered}
use Rattle.witness.specs.Laws.FitCounts.{in_row_below}
use Rattle.witness.proofs.first.count_in_row.Given as goal

abbrev pub invariant-loop-k : goal.invariant-loop-k
invariant-loop-k l =
    ChangedAt (in_row_below l.v.0 l.row l.k) (λ n count. gathered l.columns l.shares (n % row_bits)) l.initial.counts l.counts
