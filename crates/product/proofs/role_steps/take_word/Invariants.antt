-- `product::role_steps::take_word`: b roles of the word are taken, and the positions of rest are those not yet looked
-- at. The next role is that after all roles taken, as the step asks.
use Rattle.std.proofs.Common.{◌≡◌, ◌+◌, length}
use Rattle.cell_rows.specs.Rows.{row_words}
use Rattle.cell_rows.specs.RowWords.{before_word}
use Rattle.product.specs.RowAfter.{RowAfter}
use Rattle.product.specs.Laws.RoleSteps.{RestOf}
use Rattle.product.proofs.role_steps.take_word.Given as goal

abbrev pub invariant-loop-b : goal.invariant-loop-b
invariant-loop-b l =
    (length l.row ≡ row_words) × RestOf l.initial.rest l.b l.rest
    × RowAfter l.has l.gives l.u.0 (before_word l.r l.j + l.b) l.row
