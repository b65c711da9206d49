-- `row_cells::read_cells`: the cells of one word more stand behind those read, or no such cells stand.
use Rattle.std.proofs.Common.{arith, ◌≡◌, ◌+◌, ◌*◌, ◌<◌, length}
use Rattle.cell_rows.specs.Rows.{row_words, row_bits}
use Rattle.cell_rows.specs.RowWords.{before_word}
use Rattle.cell_rows.specs.Laws.Width.{row_inside}
use Rattle.cells_read.specs.RowGrown.{word_stored}
use Rattle.cells_read.specs.RowCells.{reading_more, reading_ends, reading_off}
use Rattle.cells_read.proofs.row_cells.read_cells.Goals as goal

pub returns-in_err-rows : goal.returns-in_err-rows
returns-in_err-rows c =
    let n = c.cells_in_word-n in
    rw c.from_residual.ensures (
      reading_off (before_word c.args.count c.loop-k.k) n.result c.args.count c.requires.0 (omega (arith, n.ensures))
          (rw c.loop-k.invariant.0 at c.in_err-rows.ensures),
      c.loop-k.invariant.1.grown.others,
    )

pub bounds-rows-row : goal.bounds-rows-row
unfolding row_words
bounds-rows-row c =
    omega (arith, row_inside c.args.row (c.args.row + 1) c.loop-k.k (omega arith) c.loop-k-test.true, c.requires.2)

pub loop-k-preserved : goal.loop-k-preserved
unfolding row_words
loop-k-preserved c =
    let a = c.args in
    let k = c.loop-k.k in
    let n = c.cells_in_word-n in
    let more : before_word a.count (k + 1) ≡ before_word a.count k + n.result = omega (arith, n.ensures) in
    let there : a.row * row_words + k < length c.loop-k.rows = omega (
      arith,
      row_inside a.row (a.row + 1) k (omega arith) c.loop-k-test.true,
      c.requires.2,
    ) in (
      omega (arith, more),
      rw more
          (reading_more c.loop-k.invariant.1 (word_stored c.loop-k.rows a.row k _ c.loop-k-test.true there)
          c.loop-k-test.true (omega arith) (λ l. omega (arith, n.ensures)) (omega (arith, n.ensures))
          (rw c.loop-k.invariant.0 at c.in_ok-rows.ensures)),
    )

pub returns : goal.returns
unfolding row_bits row_words
returns c =
    let all : before_word c.args.count c.loop-k.k ≡ c.args.count = omega (arith, c.requires.1) in
    rw (c.loop-k.invariant.0, all) (reading_ends (rw all at c.loop-k.invariant.1))
