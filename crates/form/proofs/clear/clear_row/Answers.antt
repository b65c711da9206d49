-- `clear::clear_row`: the words of the row are all 0.
use Rattle.std.proofs.Common.{arith}
use Rattle.std.proofs.lemmas.List.{places}
use Rattle.cell_rows.specs.Rows.{row_words}
use Rattle.form.specs.RowCleared.{row_cleared}
use Rattle.form.proofs.clear.clear_row.Goals as goal

pub returns : goal.returns
unfolding row_words
returns c =
    row_cleared _ _ c.requires (omega arith) (grind (arith, places)) (c.fill.ensures.after (λ y e. e))
