-- `first::count_in_word`: the counts at the positions that are left are still to be put in.
use Rattle.std.proofs.Common.{◌+◌, ◌*◌, ◌%◌}
use Rattle.cell_rows.specs.Rows.{row_words, row_bits}
use Rattle.witness.specs.CountChange.{at_position}
use Rattle.witness.specs.FirstCounts.{gathered}
use Rattle.witness.specs.Laws.CountChange.{Changing}
use Rattle.witness.proofs.first.count_in_word.Given as goal

abbrev pub invariant-loop-q : goal.invariant-loop-q
invariant-loop-q l =
    Changing (at_position (l.fn.v.0 * row_words + l.k) l.word) (at_position (l.fn.v.0 * row_words + l.k) l.q-iterator.left)
    (λ n count. gathered l.columns l.shares (n % row_bits)) l.initial.counts l.counts
