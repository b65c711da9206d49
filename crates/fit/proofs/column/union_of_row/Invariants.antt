-- `fit::column::union_of_row`: the columns of the permissions of the first k words are joined.
use Rattle.std.proofs.Common.{◌≡◌, ℕ, ◌+◌, ◌*◌, get_or}
use Rattle.bits.specs.Counting.{some_below}
use Rattle.bits.specs.Bit.{bit}
use Rattle.cell_rows.specs.Rows.{row_words}
use Rattle.fit.specs.ColumnUnion.{in_union}
use Rattle.fit.proofs.column.union_of_row.Given as goal

abbrev pub invariant-loop-k : goal.invariant-loop-k
invariant-loop-k l = (t : ℕ) → bit l.joined t ≡ some_below l.k (λ d. in_union l.columns
    (get_or l.words (l.row * row_words + d) 0) d l.j t)
