-- `cover::add_lacked`: after j words what the user lacks of their permissions is added to the class. Each turn adds the
-- complement of one word.
use Rattle.std.proofs.Common.{◌≡◌, ◌+◌, ◌*◌, ◌^◌, ◌<◌, arith, length, get_or}
use Rattle.bits.specs.Bit.{word_bits}
use Rattle.cell_rows.specs.Rows.{row_words, row_bits}
use Rattle.cover.specs.CoverWords.{no_lacks_added, lacks_word_added}
use Rattle.cover.proofs.cover.add_lacked.Goals as goal

pub loop-j-init : goal.loop-j-init
loop-j-init c = no_lacks_added _ _ _ _

pub loop-j-preserved : goal.loop-j-preserved
unfolding row_bits row_words
loop-j-preserved c =
    let a = c.args in
    let at = c.loop-j in
    let room : a.c * row_words + at.j < length at.lacked = omega (arith, at.invariant.size, c.requires.lacked_len) in
    let fits : get_or a.rows.now (a.user.0 * row_words + at.j) 0 < 2 ^ word_bits =
    omega (arith, c.type_inv.rows (a.user.0 * row_words + at.j)) in
    rw c.word_at-held.ensures (lacks_word_added at.invariant (omega arith) room fits)

pub returns : goal.returns
unfolding row_words row_bits
returns c =
    let end : c.loop-j.j ≡ row_words = omega arith in
    rw end at c.loop-j.invariant
