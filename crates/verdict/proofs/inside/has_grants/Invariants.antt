-- `verdict::inside::has_grants`: the first d words have no position.
use Rattle.std.proofs.Common.{◌≡◌, ℕ, ◌+◌, ◌*◌, ◌<◌, false, get_or}
use Rattle.bits.specs.Counting.{some_below}
use Rattle.bits.specs.Bit.{bit, word_bits}
use Rattle.cell_rows.specs.Rows.{row_words}
use Rattle.verdict.proofs.inside.has_grants.Given as goal

abbrev pub invariant-loop-d : goal.invariant-loop-d
invariant-loop-d l =
    (e : ℕ) → e < l.d → some_below word_bits (bit (get_or l.left (l.x.0 * row_words + e) 0)) ≡ false
