-- `verdict::judgement::tie_in`: without a misfit the lowest candidate is the lowest tie; a misfit fails it and all others
-- whose permissions it holds.
use Rattle.std.proofs.Common.{◌≡◌, ◌+◌, ◌*◌, ◌<◌, arith, zero-le}
use Rattle.bits.specs.Bit.{word_bits}
use Rattle.cell_rows.specs.Rows.{row_words}
use Rattle.verdict.specs.Laws.NearTie.{lowest_untried, none_untried}
use Rattle.verdict.specs.Laws.Misfit.{unless_misfit}
use Rattle.verdict.specs.Laws.Candidate.{misfit_tried}
use Rattle.verdict.proofs.judgement.tie_in.Goals as goal

pub returns-then-x-users : goal.returns-then-x-users
returns-then-x-users c =
    let a = c.args in
    let low = c.lowest in
    let all : c.misfit-x.result ≡ a.users = omega arith in
    lowest_untried a.rows.now a.left.now a.users a.it.0 a.i c.loop-w.invariant low.ensures
    (unless_misfit a.rows.now a.left.now a.it.0 (a.i * word_bits + low.result) a.users
    (λ n. rw all at (c.misfit-x.ensures.skipped n zero-le)))

pub loop-w-smaller : goal.loop-w-smaller
unfolding row_words
loop-w-smaller c =
    let a = c.args in
    let misfit = c.misfit-x in
    let within : misfit.result < a.users = omega (arith, c.if-x-users.false, misfit.ensures.not_past) in
    (misfit_tried a.rows.now a.left.now a.users a.it.0 a.i _ c.lowest.ensures
    (misfit.ensures.passes within) c.apart-w.ensures.1 within c.apart-w.ensures.0 c.loop-w.invariant).0

pub loop-w-preserved : goal.loop-w-preserved
unfolding row_words
loop-w-preserved c =
    let a = c.args in
    let misfit = c.misfit-x in
    let within : misfit.result < a.users = omega (arith, c.if-x-users.false, misfit.ensures.not_past) in
    (misfit_tried a.rows.now a.left.now a.users a.it.0 a.i _ c.lowest.ensures
    (misfit.ensures.passes within) c.apart-w.ensures.1 within c.apart-w.ensures.0 c.loop-w.invariant).1

pub returns : goal.returns
returns c =
    let a = c.args in
    none_untried a.rows.now a.left.now a.users a.it.0 a.i (rw c.loop-w-test.false at c.loop-w.invariant)
