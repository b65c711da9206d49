-- `first::first_counts`: after v users the counts are those of their grants.
use Rattle.std.proofs.Common.{◌≡◌, arith}
use Rattle.spec.specs.Limits.{user_limit}
use Rattle.cell_rows.specs.Rows.{row_words}
use Rattle.witness.specs.Laws.FirstCounts.{gathering_starts, gathering_goes_on, gathering_ends}
use Rattle.witness.proofs.first.first_counts.Goals as goal

pub loop-v-init : goal.loop-v-init
unfolding user_limit row_words
loop-v-init c = gathering_starts _ _ _

pub count_user-requires : goal.count_user-requires
unfolding user_limit
count_user-requires c = (c.requires.0, omega arith, c.requires.1, c.loop-v.invariant.sized)

pub loop-v-preserved : goal.loop-v-preserved
loop-v-preserved c =
    let at = c.loop-v in
    gathering_goes_on _ _ _ at.v at.counts _ at.invariant c.count_user.ensures

pub returns : goal.returns
unfolding user_limit
returns c =
    let at = c.loop-v in
    let end : at.v ≡ user_limit = omega arith in
    gathering_ends _ _ _ _ (rw end at at.invariant)
