-- `counts_block::standing_field`: where a word or the line feed behind it is missing, that line is.
use Rattle.std.proofs.Common.{arith, subst, ⊎_elim, [], ◌∷◌, ◌++◌}
use Rattle.std.proofs.Math.Nat.{eq-or-lt_of_le}
use Rattle.spec.specs.Text.{line_feed}
use Rattle.spec.specs.Roles.{witnessed, searched, unsettled}
use Rattle.steps.specs.Steps.{Misses}
use Rattle.steps.specs.Laws.Step.{misses_first, misses_second}
use Rattle.read_fields.proofs.counts_block.standing_field.Goals as goal
use Rattle.read_fields.proofs.counts_block.standing_field.Goals.{in-Some+in_default-expect_byte, in_default}

pub loop-standing-preserved : goal.loop-standing-preserved
loop-standing-preserved c j h =
    ⊎_elim (λ k. rw k (subst (λ word. Misses c.args.book.now c.args.at (word ++ line_feed ∷ [])) c.word.ensures.spelt
    (elim c.match-expect.branch [
      | in-Some+in_default-expect_byte w ↦
          misses_second (line_feed ∷ []) (rw w.in-Some.is at c.expect.ensures)
          (rw w.in_default-expect_byte.is at w.expect_byte.ensures)
      | in_default w ↦ misses_first (line_feed ∷ []) (rw w.in_default.is at c.expect.ensures)
    ])))
    (λ k. c.loop-standing.invariant j k) (eq-or-lt_of_le (omega arith))

pub returns : goal.returns
returns c witnessed = c.loop-standing.invariant 0 (omega arith)
returns c searched = c.loop-standing.invariant 1 (omega arith)
returns c unsettled = c.loop-standing.invariant 2 (omega arith)
