-- `choice::fewest`: the walk passes the remaining grants in order, word by word, and keeps the best so far.
use Rattle.std.proofs.Common.{◌*◌, arith}
use Rattle.bits.specs.Bit.{word_bits}
use Rattle.cell_rows.specs.Rows.{row_words, row_bits}
use Rattle.witness.specs.WitnessWalk.{walk_starts, walk_ends}
use Rattle.witness.proofs.choice.fewest.Goals as goal

pub loop-i-init : goal.loop-i-init
loop-i-init c rows counted = walk_starts _ _ _

pub loop-i-preserved : goal.loop-i-preserved
unfolding row_words
loop-i-preserved c rows counted =
    let at = c.loop-i in
    c.better_in_word-best.ensures rows c.args.users c.requires (omega arith) counted (at.invariant rows counted)

pub returns : goal.returns
unfolding row_bits row_words
returns c rows counted =
    let at = c.loop-i in
    walk_ends _ _ _ at.best (at.i * word_bits) (at.invariant rows counted) (omega arith)
