-- `product::role_steps::row_after`: the row has what the user's cells have after the roles of the words below j.
use Rattle.std.proofs.Common.{◌≡◌, length}
use Rattle.cell_rows.specs.Rows.{row_words}
use Rattle.cell_rows.specs.RowWords.{before_word}
use Rattle.product.specs.RowAfter.{RowAfter}
use Rattle.product.proofs.role_steps.row_after.Given as goal

abbrev pub invariant-loop-j : goal.invariant-loop-j
invariant-loop-j l = (length l.row ≡ row_words) × RowAfter l.has l.gives l.u.0 (before_word l.r l.j) l.row
