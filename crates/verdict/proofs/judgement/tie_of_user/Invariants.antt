-- `verdict::judgement::tie_of_user`: none of the user's words before word d has a tie.
use Rattle.std.proofs.Common.{◌+◌, ◌*◌}
use Rattle.bits.specs.Bit.{word_bits}
use Rattle.cell_rows.specs.Rows.{row_words, row_bits}
use Rattle.verdict.specs.NearCells.{tie_at}
use Rattle.verdict.specs.ReductionVerdict.{NoneIn}
use Rattle.verdict.proofs.judgement.tie_of_user.Given as goal

abbrev pub invariant-loop-d : goal.invariant-loop-d
invariant-loop-d l =
    NoneIn (tie_at l.rows l.left l.users l.it.0) (l.x.0 * row_bits) ((l.x.0 * row_words + l.d) * word_bits)
