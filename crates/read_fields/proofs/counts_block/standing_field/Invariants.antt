-- `counts_block::standing_field`: none of the lines compared so far stands there.
use Rattle.std.specs.Prelude.{ℕ, ◌<◌, get_or}
use Rattle.steps.specs.Steps.{Misses}
use Rattle.standing.specs.StandingCases.{standing_case}
use Rattle.standing.specs.declared.standing.Standing.TheVariants.{Witnessed}
use Rattle.read_fields.specs.CountSteps.{standing_text}
use Rattle.read_fields.proofs.counts_block.standing_field.Given as goal

abbrev pub invariant-loop-standing : goal.invariant-loop-standing
invariant-loop-standing l =
    (j : ℕ) → j < l.standing-index → Misses l.book l.at (standing_text (standing_case (get_or l.standing-items j Witnessed)))
