-- `Marks::within`: the numbers of the low word come first, then those of the high one, and each word is tested by
-- itself.
use Rattle.std.proofs.Common.{sym, ◌∙◌}
use Rattle.marks.specs.Laws.Mark.{within_words}
use Rattle.marks.proofs.marks.Marks.within.Goals as goal

pub returns-then-not-within : goal.returns-then-not-within
returns-then-not-within c =
    rw (within_words c.args.self c.args.other, sym c.within.ensures ∙ c.if-not-within.true)

pub returns : goal.returns
returns c =
    rw (within_words c.args.self c.args.other, sym c.within.ensures ∙ c.if-not-within.false) c.within-2.ensures
