-- `table::passing_word`: cell by cell, one that passes is put in and any other left out.
use Rattle.std.proofs.Common.{◌≡◌, ◌+◌, arith, sym, ◌∙◌, get_or}
use Rattle.table.specs.Laws.Table.{no_bits, bit_put_in, bit_left_out}
use Rattle.table.specs.Laws.TablePart.{all_cells}
use Rattle.table.proofs.table.passing_word.Goals as goal
use Rattle.table.proofs.table.passing_word.Goals.{then-passes, else-passes}

pub loop-q-init : goal.loop-q-init
loop-q-init g c = λ test says. no_bits _

pub loop-q-preserved : goal.loop-q-preserved
loop-q-preserved g c = λ test says.
    let at = c.loop-q in
    let a = c.args in
    let told = says _ _ c.passes.ensures in
    elim c.if-passes.branch [
      | then-passes w ↦
          rw w.word-is (bit_put_in (λ n. test (get_or a.cells.now (a.from + n) 0)) at.q at.word (at.invariant test says) _
          (sym told ∙ w.if-passes.true) w.with-word.ensures)
      | else-passes w ↦
          rw w.word-is (bit_left_out (λ n. test (get_or a.cells.now (a.from + n) 0)) at.q at.word (at.invariant test says)
          (sym told ∙ w.if-passes.false))
    ]

pub returns : goal.returns
returns g c = λ test says.
    let a = c.args in
    let e : c.loop-q.q ≡ c.cells_from-count.result = omega arith in
    all_cells c.cells_from-count.ensures (λ n. test (get_or a.cells.now (a.from + n) 0))
    (rw e at (c.loop-q.invariant test says))
