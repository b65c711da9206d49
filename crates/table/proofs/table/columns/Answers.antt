-- `table::columns`: permission by permission, its column is made where it is in the row.
use Rattle.std.proofs.Common.{◌≡◌, ◌/◌, arith, rules, sym, ◌∙◌}
use Rattle.std.proofs.lemmas.List.{set-get_or}
use Rattle.cell_rows.specs.Rows.{row_words, row_bits, cell}
use Rattle.table.specs.Laws.TablePart.{column_put_in, column_left_out}
use Rattle.table.proofs.table.columns.Goals as goal
use Rattle.table.proofs.table.columns.Goals.{then-has, else-has}

pub loop-p-init : goal.loop-p-init
loop-p-init c = record { column = λ p l m. absurd (omega arith) }

pub loop-p-preserved : goal.loop-p-preserved
unfolding row_bits row_words
loop-p-preserved c =
    let at = c.loop-p in
    let told = c.has.ensures in
    elim c.if-has.branch [
      | then-has w ↦
          rw w.word-items-is (column_put_in at.invariant _ (omega arith)
          (w.passing_word.ensures (λ n. cell c.args.rows.now (n / row_bits) at.p) (λ n r says. search rules)))
      | else-has w ↦
          rw (w.word-items-is, set-get_or) (column_left_out at.invariant (sym told ∙ w.if-has.false))
    ]

pub returns : goal.returns
unfolding row_bits row_words
returns c =
    let e : c.loop-p.p ≡ row_bits = omega arith in
    rw e at c.loop-p.invariant
