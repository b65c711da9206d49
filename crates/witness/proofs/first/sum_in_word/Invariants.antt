-- `first::sum_in_word`: the sum so far, and what the positions still to come add, make the whole.
use Rattle.std.proofs.Common.{◌≡◌, ◌+◌, ◌*◌, get_or}
use Rattle.bits.specs.Bit.{word_bits}
use Rattle.fit.specs.Laws.Column.{word_sum}
use Rattle.witness.proofs.first.sum_in_word.Given as goal

abbrev pub invariant-loop-p : goal.invariant-loop-p
invariant-loop-p l =
    l.sum + word_sum (λ q. get_or l.shares (l.j * word_bits + q) 0) l.p-iterator.left
    ≡ word_sum (λ q. get_or l.shares (l.j * word_bits + q) 0) l.word
