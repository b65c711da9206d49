-- `name::expect_name`: as many bytes as the name has are looked at, if there are so many, and are compared with it.
use Rattle.std.proofs.Common.{arith, refl, sym, ◌∙◌}
use Rattle.steps.specs.Laws.Spelled.{too_short, equal_part, other_part}
use Rattle.steps.proofs.name.expect_name.Goals as goal

pub returns-then-text-at : goal.returns-then-text-at
returns-then-text-at c = too_short _ _ _ c.requires c.if-text-at.true

pub returns-then-same_name : goal.returns-then-same_name
returns-then-same_name c =
    equal_part _ _ _ (omega arith) (omega arith) (sym c.same_name.ensures ∙ c.if-same_name.true)

pub returns : goal.returns
returns c = other_part _ _ _ refl (sym c.same_name.ensures ∙ c.if-same_name.false)
