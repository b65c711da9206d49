-- `verdict::judgement::is_single`: the grants of left in the grant's own word all fit it, so a single is the only one
-- there. Else those in the column of its permission are counted.
use Rattle.std.proofs.Common.{sym, ◌∙◌, eq-eqb, ne_eqb}
use Rattle.bits.specs.Truth.{not_both}
use Rattle.bits.specs.Laws.Word.{some_bit_pos}
use Rattle.verdict.specs.Laws.Single.{alone_in_word}
use Rattle.verdict.proofs.judgement.is_single.Goals as goal

pub is_one-requires : goal.is_one-requires
is_one-requires c = some_bit_pos _ _ c.requires.1

pub returns-then-not-is_one : goal.returns-then-not-is_one
returns-then-not-is_one c =
    sym (ne_eqb _ 1 (λ one. not_both
    (eq-eqb _ 1 (alone_in_word c.requires.2 c.args.it.0 c.requires.0 c.requires.1 one))
    (sym c.is_one.ensures ∙ c.if-not-is_one.true)))
