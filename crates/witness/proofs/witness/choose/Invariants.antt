-- `witness::choose`: as many grants as turns are taken, as the definition does, and the counts are those of what is left.
use Rattle.std.proofs.Common.{◌≡◌, ◌-◌, length}
use Rattle.spec.specs.Limits.{grant_limit}
use Rattle.spec.specs.Sheet.{Sheet}
use Rattle.cell_rows.specs.CellPlaces.{cell_words, Shown, Part}
use Rattle.witness.specs.Counts.{Counted}
use Rattle.witness.specs.WitnessGreedy.{Greedy}
use Rattle.witness.proofs.witness.choose.Given as goal

abbrev pub invariant-loop : goal.invariant-loop
invariant-loop l =
    (length l.cells ≡ cell_words) × Counted l.rows l.left l.users l.counts
    × ((sheet : Sheet) → Shown l.rows l.users sheet → Part l.kernel l.rows → Greedy sheet l.rows l.kernel
    l.initial.cells l.left l.cells (grant_limit - l.counter))
