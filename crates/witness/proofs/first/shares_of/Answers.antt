-- `first::shares_of`: the shares of the first users are put in one after the other.
use Rattle.std.proofs.Common.{◌≤◌, arith}
use Rattle.spec.specs.Limits.{user_limit}
use Rattle.bits.specs.Laws.Count.{count_below_le}
use Rattle.cell_rows.specs.Rows.{row_words, row_bits}
use Rattle.witness.specs.Laws.FirstCounts.{no_shares, next_share}
use Rattle.witness.proofs.first.shares_of.Goals as goal

pub loop-u-init : goal.loop-u-init
unfolding user_limit
loop-u-init c = no_shares _ _ _

pub overflow_cast-shares : goal.overflow_cast-shares
unfolding row_bits row_words
overflow_cast-shares c =
    let few : c.shared_by-share.result ≤ row_bits = rw c.shared_by-share.ensures (count_below_le row_bits _) in
    omega arith

pub loop-u-preserved : goal.loop-u-preserved
loop-u-preserved c =
    let at = c.loop-u in
    next_share _ _ _ at.u at.shares _ _ at.invariant (omega (arith, c.requires.0)) c.row_of-row.ensures
    c.shared_by-share.ensures
