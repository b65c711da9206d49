-- `lookup::find_between`: a name looked at is equal and stands there, or the name stands nowhere yet.
use Rattle.std.proofs.Common.{arith, add-one, sym, ◌∙◌}
use Rattle.names.specs.Laws.FoundBetween.{nowhere_more, nowhere_past}
use Rattle.names.proofs.lookup.find_between.Goals as goal

pub returns-then-same_name : goal.returns-then-same_name
returns-then-same_name c =
    record {
      from = omega arith;
      below = c.loop-i-test.true;
      equal = rw c.part_at.ensures at (sym c.same_name.ensures ∙ c.if-same_name.true);
    }

pub loop-i-preserved : goal.loop-i-preserved
loop-i-preserved c =
    rw add-one (nowhere_more _ _ _ _ _ c.loop-i.invariant
    (rw c.part_at.ensures at (sym c.same_name.ensures ∙ c.if-same_name.false)))

pub returns : goal.returns
returns c = nowhere_past _ _ _ _ _ _ c.loop-i.invariant c.loop-i-test.false
