-- `table::table_of`: grant by grant its two words are put in; past the last grant the words stay 0, and nothing fits
-- there.
use Rattle.std.proofs.Common.{◌≡◌, ◌*◌, length}
use Rattle.table.specs.TableWords.{table_row, table_limit}
use Rattle.table.specs.TableHeld.{HeldBy}
use Rattle.table.specs.Laws.TablePart.{Filled}
use Rattle.table.proofs.table.table_of.Given as goal

abbrev pub invariant-loop-i : goal.invariant-loop-i
invariant-loop-i l =
    (length l.words ≡ table_limit * table_row) × HeldBy l.rows l.cells l.last.user.0 l.last
    × Filled l.rows l.cells l.i l.words
