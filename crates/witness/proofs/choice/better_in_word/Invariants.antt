-- `choice::better_in_word`: the cells at the positions that are left are still to be passed.
use Rattle.std.proofs.Common.{ℕ, ◌*◌, ◌≤◌, ◌<◌, List}
use Rattle.spec.specs.Limits.{user_limit}
use Rattle.bits.specs.Bit.{word_bits}
use Rattle.cell_rows.specs.Rows.{row_words}
use Rattle.witness.specs.Counts.{Counted}
use Rattle.witness.specs.WitnessWalk.{Walked, InWord}
use Rattle.witness.proofs.choice.better_in_word.Given as goal

abbrev pub invariant-loop-p : goal.invariant-loop-p
invariant-loop-p l =
    (rows : List ℕ) (users : ℕ) → users ≤ user_limit → l.i < users * row_words → Counted rows l.left users l.counts
    → Walked rows l.left users l.initial.it (l.i * word_bits) → InWord rows l.left users l.i l.p-iterator.left l.it
