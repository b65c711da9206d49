-- `verdict::judgement::tie_of_user`: the first tie that is found is the lowest.
use Rattle.std.proofs.Common.{arith}
use Rattle.cell_rows.specs.Rows.{row_words, row_bits}
use Rattle.verdict.specs.Laws.NearTie.{none_then_none, none_then_lowest, none_before, lowest_with_more, found_in, none_found}
use Rattle.verdict.proofs.judgement.tie_of_user.Goals as goal

pub loop-d-init : goal.loop-d-init
unfolding row_bits
loop-d-init c = record { fails = λ m from to. absurd (omega arith) }

pub returns-then-is_some : goal.returns-then-is_some
unfolding row_words row_bits
returns-then-is_some c =
    found_in c.tie_in-found.result (cc) c.tie_in-found.ensures
    (λ n low. lowest_with_more (omega arith) (none_then_lowest (omega arith) c.loop-d.invariant low))

pub loop-d-preserved : goal.loop-d-preserved
unfolding row_words
loop-d-preserved c =
    none_before (omega arith)
    (none_then_none c.loop-d.invariant (none_found c.tie_in-found.result (cc) c.tie_in-found.ensures))

pub returns : goal.returns
unfolding row_words row_bits
returns c = none_before (omega arith) c.loop-d.invariant
