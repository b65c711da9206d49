-- `one_by_one::same_classes`: a grant that is not placed alike tells the placements apart.
use Rattle.search_cases.specs.Same.{told_apart, same_class}
use Rattle.search_cases.proofs.one_by_one.same_classes.Goals as goal

pub returns-then-a-i : goal.returns-then-a-i
returns-then-a-i c =
    let a = c.args in
    told_apart (λ e. c.if-a-i.true (same_class a.a.now a.b.now a.count c.loop-i.i c.loop-i-test.true e))
