-- `user_lines::cells_set`: each word of the row is among the words, and one more adds its cells.
use Rattle.std.proofs.Common.{ℕ, ◌+◌, ◌*◌, ◌≡◌, ◌≤◌, ◌<◌, List, length, arith, refl}
use Rattle.bits.specs.Counting.{count_below}
use Rattle.bits.specs.Laws.Count.{count_below_le}
use Rattle.bits.specs.Bit.{word_bits}
use Rattle.cell_rows.specs.Rows.{row_words, row_bits, cell}
use Rattle.cell_rows.specs.Laws.Width.{row_inside}
use Rattle.sheet.specs.Laws.RowCount.{count_word}
use Rattle.sheet.proofs.user_lines.cells_set.Goals as goal

-- a word of the row is among the words
word_there : (rows : List ℕ) (row k : ℕ) → (row + 1) * row_words ≤ length rows → k < row_words
    → row * row_words + k < length rows
unfolding row_words
word_there rows row k room h = omega (arith, row_inside row (row + 1) k (omega arith) h, room)

pub loop-k-init : goal.loop-k-init
unfolding count_below
loop-k-init c = refl

pub overflow_mul-row : goal.overflow_mul-row
unfolding row_words
overflow_mul-row c =
    omega (arith, word_there c.args.rows.now c.args.row c.loop-k.k c.requires c.loop-k-test.true)

pub overflow_add-row : goal.overflow_add-row
unfolding row_words
overflow_add-row c =
    omega (arith, word_there c.args.rows.now c.args.row c.loop-k.k c.requires c.loop-k-test.true)

pub offset_bounds-rows-row : goal.offset_bounds-rows-row
unfolding row_words
offset_bounds-rows-row c =
    omega (arith, word_there c.args.rows.now c.args.row c.loop-k.k c.requires c.loop-k-test.true)

pub bounds-rows-row : goal.bounds-rows-row
unfolding row_words
bounds-rows-row c = word_there c.args.rows.now c.args.row c.loop-k.k c.requires c.loop-k-test.true

pub overflow_add-n : goal.overflow_add-n
unfolding row_words
overflow_add-n c =
    let few : c.count-n.result ≤ word_bits = rw c.count-n.ensures (count_below_le word_bits _) in
    omega (
      arith,
      few,
      c.loop-k.invariant,
      count_below_le (c.loop-k.k * word_bits) (cell c.args.rows.now c.args.row),
      c.loop-k-test.true,
    )

pub loop-k-preserved : goal.loop-k-preserved
unfolding row_words
loop-k-preserved c =
    rw (count_word c.args.rows.now c.args.row c.loop-k.k) (omega (arith, c.loop-k.invariant, c.count-n.ensures))

pub returns : goal.returns
unfolding row_bits row_words
returns c =
    let end : c.loop-k.k ≡ row_words = omega (arith, c.loop-k-test.false, c.loop-k.auto.k-end) in
    rw end at c.loop-k.invariant
