-- `fit::column::union_of_row`: the columns of each word are joined to those of the words before it.
use Rattle.std.proofs.Common.{◌+◌, ◌*◌, get_or}
use Rattle.bits.specs.Counting.{some_below}
use Rattle.bits.specs.Laws.Bit.{bit_of_zero}
use Rattle.cell_rows.specs.Rows.{row_words}
use Rattle.fit.specs.ColumnUnion.{in_union}
use Rattle.fit.specs.Laws.ColumnUnion.{union_joined}
use Rattle.fit.proofs.column.union_of_row.Goals as goal

pub loop-k-init : goal.loop-k-init
unfolding some_below
loop-k-init c = bit_of_zero

pub loop-k-preserved : goal.loop-k-preserved
unfolding row_words
loop-k-preserved c t =
    let a = c.args in
    union_joined (λ d. in_union a.columns.now (get_or a.words.now (a.row * row_words + d) 0) d a.j t) c.loop-k.k
    c.loop-k.joined c.union_of-joined.result t (c.loop-k.invariant t) (c.union_of-joined.ensures t)
