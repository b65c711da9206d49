-- `counts::take_off_in_row`: the words of the row are passed one after the other. The counts at the positions of the
-- words still to come are as they were.
use Rattle.std.proofs.Common.{◌≡◌, ◌-◌, ◌∙◌, arith}
use Rattle.spec.specs.Limits.{user_limit}
use Rattle.cell_rows.specs.Rows.{row_words}
use Rattle.witness.specs.Laws.CountChange.{not_changed}
use Rattle.witness.specs.Laws.FitCounts.{word_to_come, row_goes_on, row_ends}
use Rattle.witness.proofs.counts.take_off_in_row.Goals as goal

pub take_off_at-requires : goal.take_off_at-requires
unfolding user_limit row_words
take_off_at-requires c =
    let a = c.args in
    let at = c.loop-k in (
      omega (arith, c.requires.0),
      at.invariant.sized ∙ c.requires.1,
      λ n p.
          let here = word_to_come a.v.0 a.own.now at.k n (omega arith) p in
          rw (not_changed at.invariant n here.0) (c.requires.2 n here.1),
    )

pub loop-k-preserved : goal.loop-k-preserved
unfolding row_words
loop-k-preserved c =
    let a = c.args in
    let at = c.loop-k in
    row_goes_on a.v.0 a.own.now (λ m count. count - a.by) at.k _ at.counts _ (omega arith) at.invariant
    c.take_off_at.ensures

pub returns : goal.returns
unfolding row_words
returns c =
    let a = c.args in
    let at = c.loop-k in
    let end : at.k ≡ row_words = omega arith in
    row_ends a.v.0 a.own.now (λ m count. count - a.by) _ _ (rw end at at.invariant)
