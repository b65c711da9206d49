-- `whole::lowest_from`: the lowest position of the word shifted by the place, counted from there.
use Rattle.std.proofs.Common.{arith}
use Rattle.bits.specs.Laws.Next.{shifted_to_none, shifted_to_lowest}
use Rattle.bits.proofs.whole.lowest_from.Goals as goal

pub returns-then-rest-eq0 : goal.returns-then-rest-eq0
returns-then-rest-eq0 c = shifted_to_none c.args.w c.args.from (omega arith) c.if-rest-eq0.true

pub returns : goal.returns
returns c = shifted_to_lowest c.args.w c.args.from (omega arith) c.lowest.ensures
