-- `reduction::reduction::Work::sweep`: after u users their cells were visited, of those that remained at first; within a
-- user's row, after d words the cells of those words. Within a word, the cells still to be visited are at the
-- positions that are left, and remain. The users whose grants they can be tied to stay the same.
use Rattle.std.proofs.Common.{◌*◌, get_or}
use Rattle.cell_rows.specs.Rows.{row_words}
use Rattle.verdict.specs.Insides.{Insides}
use Rattle.verdict.specs.ReductionWork.{word_cells}
use Rattle.reduction.specs.WorkAt.{work_at}
use Rattle.reduction.specs.Laws.ReductionSweep.{Sweeping, SweepingUser, Swept}
use Rattle.reduction.proofs.reduction.Work.sweep.Given as goal

abbrev pub invariant-loop-u : goal.invariant-loop-u
invariant-loop-u l =
    Swept l.rows l.users (l.u * row_words)
    (work_at l.initial.self)
    (work_at l.self)

abbrev pub invariant-loop-d : goal.invariant-loop-d
invariant-loop-d l =
    SweepingUser l.rows l.users l.u l.inside
    (work_at l.initial.self)
    (work_at l.self) l.d

abbrev pub invariant-loop-q : goal.invariant-loop-q
invariant-loop-q l = record {
  sweeping : Sweeping l.rows l.users l.i (word_cells l.i (get_or l.initial.self.left l.i 0))
      (work_at l.initial.self)
      (work_at l.self) l.q-iterator.left;
  insides : Insides l.rows l.self.left l.u l.inside;
}
