-- `verdict::domination::holders`: the positions past the users are cut off, where the word has any.
use Rattle.spec.specs.Limits.{user_limit}
use Rattle.verdict.specs.Laws.Misfit.{cut_word_holds}
use Rattle.verdict.proofs.domination.holders.Goals as goal

pub returns : goal.returns
unfolding user_limit
returns c = λ q l.
    let a = c.args in
    cut_word_holds a.columns.now a.users a.p.0 a.j c.full.result c.full.ensures q
