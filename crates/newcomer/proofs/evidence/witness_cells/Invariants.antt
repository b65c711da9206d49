-- `evidence::witness_cells`: the cells of the first j lines are there.
use Rattle.newcomer.specs.WitnessCells.{CellsOf}
use Rattle.newcomer.proofs.evidence.witness_cells.Given as goal

abbrev pub invariant-loop-j : goal.invariant-loop-j
invariant-loop-j l = CellsOf l.fn.witness l.j l.cells
