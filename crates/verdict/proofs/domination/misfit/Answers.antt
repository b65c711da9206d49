-- `verdict::domination::misfit`: the first position found is that of the first misfit.
use Rattle.std.proofs.Common.{arith}
use Rattle.verdict.specs.Laws.Misfit.{suspects_word}
use Rattle.verdict.specs.Laws.MisfitWalk.{first_misfit, no_misfit_then, no_misfit_first}
use Rattle.verdict.proofs.domination.misfit.Goals as goal

pub returns-then-q-lt-WORD_BITS : goal.returns-then-q-lt-WORD_BITS
returns-then-q-lt-WORD_BITS c =
    let a = c.args in
    first_misfit a.rows.now a.left.now a.users a.it.0 a.other.0 c.loop-j.j c.suspects-some.result
    c.misfit_among-q.result (omega arith)
    (suspects_word a.rows.now a.columns.now a.left.now c.requires.3 a.users a.it.0 a.other.0 c.loop-j.j
    c.suspects-some.result c.requires.0 (omega arith) c.suspects-some.ensures)
    (rw c.user_of-v.ensures at c.misfit_among-q.ensures) c.loop-j.invariant (omega arith)

pub loop-j-preserved : goal.loop-j-preserved
loop-j-preserved c =
    let a = c.args in
    no_misfit_then a.rows.now a.left.now a.users a.it.0 a.other.0 c.loop-j.j c.suspects-some.result
    c.misfit_among-q.result (omega arith)
    (suspects_word a.rows.now a.columns.now a.left.now c.requires.3 a.users a.it.0 a.other.0 c.loop-j.j
    c.suspects-some.result c.requires.0 (omega arith) c.suspects-some.ensures)
    (rw c.user_of-v.ensures at c.misfit_among-q.ensures) c.loop-j.invariant (omega arith)

pub returns : goal.returns
returns c =
    let a = c.args in
    no_misfit_first a.rows.now a.left.now a.users a.it.0 a.other.0 c.loop-j.j (omega arith) c.loop-j.invariant
