-- `put::put_row`: the words of the row are written over.
use Rattle.std.proofs.Common.{arith}
use Rattle.cell_rows.specs.Rows.{row_words}
use Rattle.admitting.specs.Laws.RowPut.{row_put}
use Rattle.admitting.proofs.put.put_row.Goals as goal

pub returns : goal.returns
unfolding row_words
returns c = row_put _ _ _ c.requires c.told-new (omega arith) c.copy_from_slice.ensures.after
