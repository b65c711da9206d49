-- `cover::class_for`: no class of the words passed is free, so the first one found is the lowest.
use Rattle.std.proofs.Common.{arith}
use Rattle.cell_rows.specs.Rows.{row_words, row_bits}
use Rattle.cover.specs.CoverFree.{none_before, found_free, none_free}
use Rattle.cover.proofs.cover.class_for.Goals as goal

pub returns-then-x-lt-WORD_BITS : goal.returns-then-x-lt-WORD_BITS
unfolding row_words
returns-then-x-lt-WORD_BITS c =
    let a = c.args in
    found_free a.allowed.now a.lacked.now a.permission.0 _ _ c.free_in_word-x.ensures c.loop-j.invariant (omega arith)
    (omega arith)

pub loop-j-preserved : goal.loop-j-preserved
unfolding row_words
loop-j-preserved c i l =
    let a = c.args in
    none_before a.allowed.now a.lacked.now a.permission.0 _ _ c.free_in_word-x.ensures c.loop-j.invariant i (omega arith)

pub returns : goal.returns
unfolding row_words row_bits
returns c =
    let a = c.args in
    none_free a.allowed.now a.lacked.now a.permission.0 (λ i l. c.loop-j.invariant i (omega arith))
