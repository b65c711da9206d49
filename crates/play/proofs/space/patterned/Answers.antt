-- `space::patterned`: a turn puts one byte more of the pattern.
use borrow.Author.Rules.{rules}
use Rattle.play.specs.Space.{pattern_starts, pattern_goes_on, pattern_ends}
use Rattle.play.proofs.space.patterned.Goals as goal

pub loop-i-init : goal.loop-i-init
loop-i-init c = pattern_starts _ (search rules)

pub loop-i-preserved : goal.loop-i-preserved
loop-i-preserved c =
    pattern_goes_on c.loop-i.space c.loop-i.i c.pattern_byte.result c.loop-i.invariant c.loop-i-test.true
    c.pattern_byte.ensures

pub returns : goal.returns
returns c = pattern_ends c.loop-i.space c.loop-i.i c.loop-i.invariant c.loop-i-test.false
