-- `row::shared_by`: after k words the sum is how many permissions of these words the user holds.
use Rattle.std.proofs.Common.{◌≡◌, ◌*◌, ◌≤◌, ◌&&◌, refl, arith}
use Rattle.bits.specs.Counting.{count_below}
use Rattle.bits.specs.Laws.Count.{count_below_le}
use Rattle.bits.specs.Bit.{word_bits}
use Rattle.cell_rows.specs.Rows.{row_words, row_bits, cell}
use Rattle.cell_rows.specs.CellPlaces.{marked}
use Rattle.fit.specs.Laws.FitWord.{count_next_word}
use Rattle.witness.specs.Laws.Row.{shared_word}
use Rattle.witness.proofs.row.shared_by.Goals as goal

pub loop-k-init : goal.loop-k-init
unfolding count_below
loop-k-init c = refl

pub overflow_add-n : goal.overflow_add-n
overflow_add-n c =
    let at = c.loop-k in
    let few : c.count-n.result ≤ word_bits = rw c.count-n.ensures (count_below_le word_bits _) in
    let so_far : at.n ≤ at.k * word_bits = rw at.invariant (count_below_le (at.k * word_bits) _) in
    omega (arith, few, so_far)

pub loop-k-preserved : goal.loop-k-preserved
unfolding row_words
loop-k-preserved c =
    let a = c.args in
    let at = c.loop-k in
    rw (count_next_word (λ p. marked a.row.now p && cell a.rows.now a.v.0 p) at.k _
    (shared_word a.rows.now a.row.now a.v.0 at.k))
    (omega (arith, at.invariant, c.count-n.ensures))

pub returns : goal.returns
unfolding row_bits row_words
returns c =
    let at = c.loop-k in
    let end : at.k ≡ row_words = omega arith in
    rw end at at.invariant
