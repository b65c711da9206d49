-- `verdict::inside::inside_among`: only users in the union can pass, and of them those who do not are left out. The
-- lowest position that is left is tried next.
use Rattle.std.proofs.Common.{sym, ◌∙◌}
use Rattle.verdict.specs.Laws.Inside.{unless_in_union}
use Rattle.verdict.specs.Laws.Sift.{none_sifted, sifted_kept, all_sifted}
use Rattle.verdict.proofs.inside.inside_among.Goals as goal

pub loop-q-init : goal.loop-q-init
loop-q-init c =
    let a = c.args in
    rw (c.into_iter-q-iterator.ensures.into_iter_gives, c.positions-q-items.ensures)
    (none_sifted _ _ (λ q l e. unless_in_union c.requires.3 c.requires.2 a.v.0 a.j q c.requires.1 l
    (sym (c.union_of_row-inside.ensures q) ∙ e)))

pub loop-q-preserved : goal.loop-q-preserved
loop-q-preserved c =
    let taken = c.in-Some.ensures.steps in
    sifted_kept _ _ c.loop-q.invariant taken.lowest taken.dropped
    (sym c.is_inside.ensures ∙ c.if-not-is_inside.false)

pub returns : goal.returns
returns c = all_sifted _ _ (rw c.in-None.ensures.steps.0 at c.loop-q.invariant)
