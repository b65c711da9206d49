-- `counts::recount`: after u users their closed grants are taken off.
use Rattle.std.proofs.Common.{◌≡◌, arith}
use Rattle.witness.specs.Laws.Counts.{recount_starts, recount_enough, recount_goes_on, recount_ends}
use Rattle.witness.proofs.counts.recount.Goals as goal

pub loop-u-init : goal.loop-u-init
loop-u-init c = recount_starts _ _ _ _ c.requires.3 _ c.requires.2

pub take_off-requires : goal.take_off-requires
take_off-requires c =
    let a = c.args in
    let at = c.loop-u in (
      omega (arith, c.requires.0),
      c.requires.1,
      at.invariant.sized,
      recount_enough a.rows.now a.left.now a.rest.now a.users c.requires.3 at.u _ _ at.counts at.invariant (omega arith)
          c.row_apart-words.ensures,
    )

pub loop-u-preserved : goal.loop-u-preserved
loop-u-preserved c =
    let a = c.args in
    let at = c.loop-u in
    recount_goes_on a.rows.now a.left.now a.rest.now a.users c.requires.3 at.u _ _ at.counts at.invariant (omega arith)
    c.row_apart-words.ensures _ c.take_off.ensures

pub returns : goal.returns
returns c =
    let at = c.loop-u in
    let end : at.u ≡ c.args.users = omega arith in
    recount_ends _ _ _ _ c.requires.3 _ _ (rw end at at.invariant)
