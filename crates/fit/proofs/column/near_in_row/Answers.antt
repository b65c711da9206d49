-- `fit::column::near_in_row`: the words of the user's row are counted one after the other.
use Rattle.std.proofs.Common.{arith, ◌≡◌, ◌*◌, ◌≤◌, refl, ◌∙◌}
use Rattle.bits.specs.Bit.{word_bits}
use Rattle.bits.specs.Counting.{count_below}
use Rattle.bits.specs.Laws.Count.{count_below_le}
use Rattle.cell_rows.specs.Rows.{row_words}
use Rattle.fit.specs.Laws.Column.{near_words_more, near_words_all}
use Rattle.fit.proofs.column.near_in_row.Goals as goal

pub loop-k-init : goal.loop-k-init
unfolding count_below
loop-k-init c = refl

pub overflow_add-n : goal.overflow_add-n
unfolding row_words
overflow_add-n c =
    let few : c.count-n.result ≤ word_bits = rw c.count-n.ensures (count_below_le word_bits _) in
    let so_far : c.loop-k.n ≤ c.loop-k.k * word_bits = rw c.loop-k.invariant (count_below_le (c.loop-k.k * word_bits) _) in
    omega (arith, few, so_far)

pub loop-k-preserved : goal.loop-k-preserved
unfolding row_words
loop-k-preserved c =
    let a = c.args in
    omega (
      arith,
      c.loop-k.invariant,
      c.count-n.ensures,
      near_words_more a.rows.now a.left.now a.it.0 _ c.loop-k.k c.fitting.ensures,
    )

pub returns : goal.returns
unfolding row_words
returns c =
    let end : c.loop-k.k ≡ row_words = omega arith in
    (rw end at c.loop-k.invariant) ∙ near_words_all c.args.rows.now c.args.left.now c.args.it.0 c.args.user.0
