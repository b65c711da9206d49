-- `fit::column::columns_of`: each user is added to those before.
use Rattle.std.proofs.Common.{arith, ◌≡◌, ◌*◌, refl, ◌∙◌}
use Rattle.spec.specs.Limits.{user_limit}
use Rattle.cell_rows.specs.Rows.{row_words, row_bits}
use Rattle.fit.specs.Columns.{column_words}
use Rattle.fit.specs.ColumnsMade.{none_put_in, next_put_in, columns_made}
use Rattle.fit.proofs.column.columns_of.Goals as goal

pub loop-u-init : goal.loop-u-init
unfolding user_limit row_words row_bits
loop-u-init c = record { sized = refl; put_in = none_put_in _ (row_bits * column_words) }

pub loop-u-preserved : goal.loop-u-preserved
loop-u-preserved c = record {
  sized = c.put_row.ensures.sized ∙ c.loop-u.invariant.sized;
  put_in = next_put_in _ c.loop-u.u _ _ c.loop-u.invariant.put_in c.put_row.ensures;
}

pub returns : goal.returns
unfolding user_limit
returns c =
    let end : c.loop-u.u ≡ user_limit = omega arith in
    columns_made _ c.loop-u.columns c.loop-u.invariant.sized (rw end at c.loop-u.invariant.put_in)
