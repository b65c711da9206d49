-- `witness_lines::fits_a_noted`: none of the permissions in the words below k crosses with the grant of the line.
use Rattle.std.proofs.Common.{◌≡◌, ◌*◌, false}
use Rattle.bits.specs.Bit.{word_bits}
use Rattle.bits.specs.Counting.{some_below}
use Rattle.judging.specs.NotedLines.{crosses}
use Rattle.judging.proofs.witness_lines.fits_a_noted.Given as goal

abbrev pub invariant-loop-k : goal.invariant-loop-k
invariant-loop-k l =
    some_below (l.k * word_bits) (crosses l.rows l.taken l.owners l.line.user.0 l.line.permission.0) ≡ false
