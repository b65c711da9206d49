-- `sets::counted`: after i words the sum is how many of the cells below i * word-bits are set.
use Rattle.std.proofs.Common.{◌≡◌, ◌*◌, ◌≤◌, ◌<◌, refl, arith, sym}
use Rattle.std.proofs.lemmas.List.{length-take-le, get_or-take}
use Rattle.spec.specs.Limits.{user_limit}
use Rattle.bits.specs.Counting.{count_below}
use Rattle.bits.specs.Laws.Count.{count_below_le}
use Rattle.bits.specs.Bit.{word_bits}
use Rattle.cell_rows.specs.Rows.{row_words}
use Rattle.cell_rows.specs.CellPlaces.{marked}
use Rattle.fit.specs.Laws.FitWord.{marked_in_word, count_next_word}
use Rattle.witness.proofs.sets.counted.Goals as goal

pub loop-word-init : goal.loop-word-init
unfolding count_below
loop-word-init c = refl

pub overflow_add-n : goal.overflow_add-n
unfolding user_limit row_words
overflow_add-n c =
    let few : c.count-n.result ≤ word_bits = rw c.count-n.ensures (count_below_le word_bits _) in
    let so_far : c.loop-word.n ≤ c.loop-word.word-index * word_bits =
    rw c.loop-word.invariant (count_below_le (c.loop-word.word-index * word_bits) _) in
    omega (arith, few, so_far, length-take-le (c.args.users * row_words) c.args.words.now (omega arith))

pub loop-word-preserved : goal.loop-word-preserved
unfolding user_limit row_words
loop-word-preserved c =
    let words = c.args.words.now in
    let at = c.loop-word in
    let inside : at.word-index < c.args.users * row_words =
    omega (arith, length-take-le (c.args.users * row_words) words (omega arith)) in
    let here = rw get_or-take at c.count-n.ensures in
    rw (count_next_word (marked words) at.word-index _ (λ q l. sym (marked_in_word words at.word-index q l)))
    (omega (arith, at.invariant, here))

pub returns : goal.returns
unfolding user_limit row_words
returns c =
    let at = c.loop-word in
    let so_far : at.n ≡ count_below (at.word-index * word_bits) (marked c.args.words.now) = at.invariant in
    let end : at.word-index ≡ c.args.users * row_words =
    omega (arith, length-take-le (c.args.users * row_words) c.args.words.now (omega arith)) in
    rw end at so_far
