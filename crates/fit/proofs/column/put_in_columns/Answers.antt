-- `fit::column::put_in_columns`: the lowest position that is left is put into its column next.
use Rattle.spec.specs.Limits.{user_limit}
use Rattle.cell_rows.specs.Rows.{row_words, row_bits}
use Rattle.fit.specs.ColumnsMade.{one_put_in, all_put_in}
use Rattle.fit.proofs.column.put_in_columns.Goals as goal

pub loop-p-preserved : goal.loop-p-preserved
unfolding user_limit row_words row_bits
loop-p-preserved c =
    let taken = c.in-Some.ensures.steps in
    one_put_in c.args.user.0 c.args.k c.args.some _ _ _ c.requires.0 c.loop-p.invariant taken.lowest taken.dropped
    c.mark.ensures.size c.mark.ensures.shows

pub returns : goal.returns
returns c = all_put_in _ _ _ _ _ (rw c.in-None.ensures.steps.0 at c.loop-p.invariant)
