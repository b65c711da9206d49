-- `witness_lines::fits_a_noted`: none of the permissions in the words below k crosses with the grant of the line.
use Rattle.std.proofs.Common.{◌≡◌, ℕ, ◌+◌, ◌*◌, ◌≤◌, ◌<◌, List, length, refl, sym, ◌∙◌, arith}
use Rattle.bits.specs.Bit.{word_bits}
use Rattle.bits.specs.Counting.{some_below}
use Rattle.bits.specs.Truth.{or_fails}
use Rattle.cell_rows.specs.Rows.{row_words, row_bits}
use Rattle.cell_rows.specs.Laws.RowWithin.{word_below}
use Rattle.judging.specs.NotedLines.{crosses, fits_noted, word_owners, word_crosses, word_found}
use Rattle.judging.proofs.witness_lines.fits_a_noted.Goals as goal

pub loop-k-init : goal.loop-k-init
unfolding some_below
loop-k-init c = refl

-- the word is one of the rows
word_there : (user k : ℕ) (rows : List ℕ) → k < row_words → (user + 1) * row_words ≤ length rows
    → user * row_words + k < length rows
word_there user k rows h room = word_below user (user + 1) k (length rows) (omega arith) h room

pub overflow_mul-some : goal.overflow_mul-some
unfolding row_words
overflow_mul-some c =
    let a = c.args in
    omega (arith, word_there a.line.user.0 c.loop-k.k a.rows.now c.loop-k-test.true c.requires.0.row)

pub overflow_add-some : goal.overflow_add-some
unfolding row_words
overflow_add-some c =
    let a = c.args in
    omega (arith, word_there a.line.user.0 c.loop-k.k a.rows.now c.loop-k-test.true c.requires.0.row)

pub offset_bounds-rows-line : goal.offset_bounds-rows-line
unfolding row_words
offset_bounds-rows-line c =
    let a = c.args in
    omega (arith, word_there a.line.user.0 c.loop-k.k a.rows.now c.loop-k-test.true c.requires.0.row)

pub bounds-rows-line : goal.bounds-rows-line
unfolding row_words
bounds-rows-line c =
    let a = c.args in word_there a.line.user.0 c.loop-k.k a.rows.now c.loop-k-test.true c.requires.0.row

pub an_owner_holds-requires : goal.an_owner_holds-requires
unfolding row_bits row_words
an_owner_holds-requires c =
    let a = c.args in (
      omega (arith, c.loop-k-test.true),
      c.requires.0.place,
      word_owners a.rows.now a.taken.now a.owners.now a.line.user.0 a.line.permission.0 c.loop-k.k _ refl
          c.requires.1,
    )

pub returns-then-an_owner_holds : goal.returns-then-an_owner_holds
unfolding fits_noted row_words
returns-then-an_owner_holds c =
    let a = c.args in
    sym
    (word_found a.rows.now a.taken.now a.owners.now a.line.user.0 a.line.permission.0 c.loop-k.k _ refl
    c.loop-k-test.true (sym c.an_owner_holds.ensures ∙ c.if-an_owner_holds.true))

pub loop-k-preserved : goal.loop-k-preserved
unfolding row_words
loop-k-preserved c =
    let a = c.args in
    word_crosses a.rows.now a.taken.now a.owners.now a.line.user.0 a.line.permission.0 c.loop-k.k _ refl
    ∙ or_fails (some_below (c.loop-k.k * word_bits)
    (crosses a.rows.now a.taken.now a.owners.now a.line.user.0 a.line.permission.0)) _
    c.loop-k.invariant (sym c.an_owner_holds.ensures ∙ c.if-an_owner_holds.false)

pub returns : goal.returns
unfolding fits_noted row_bits row_words
returns c =
    let all : c.loop-k.k ≡ row_words = omega arith in
    sym (rw all at c.loop-k.invariant)
