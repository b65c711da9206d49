-- `witness::single_cells`: the removals are looked at in order, and each single puts its cell in.
use Rattle.std.proofs.Common.{◌≡◌, length}
use Rattle.cell_rows.specs.CellPlaces.{cell_words}
use Rattle.spec.specs.Reduction.{singles_of}
use Rattle.verdict.specs.Log.{log_of}
use Rattle.witness.specs.WitnessSingles.{CellsOf}
use Rattle.witness.proofs.witness.single_cells.Given as goal

abbrev pub invariant-loop-i : goal.invariant-loop-i
invariant-loop-i l = (length l.cells ≡ cell_words) × CellsOf l.cells (singles_of (log_of l.removed l.partner l.i))
