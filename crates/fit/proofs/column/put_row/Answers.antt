-- `fit::column::put_row`: each word adds its permissions to those of the words before it.
use Rattle.std.proofs.Common.{arith, ◌≡◌}
use Rattle.cell_rows.specs.Rows.{row_words}
use Rattle.fit.specs.ColumnsMade.{no_words_put, next_word_put, row_put}
use Rattle.fit.proofs.column.put_row.Goals as goal

pub loop-k-init : goal.loop-k-init
loop-k-init c = no_words_put _ _ _

pub loop-k-preserved : goal.loop-k-preserved
unfolding row_words
loop-k-preserved c = next_word_put _ _ _ _ _ _ c.loop-k.invariant c.put_in_columns.ensures

pub returns : goal.returns
unfolding row_words
returns c =
    let end : c.loop-k.k ≡ row_words = omega arith in
    row_put _ _ _ _ (rw end at c.loop-k.invariant)
