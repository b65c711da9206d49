-- `verdict::inside::inside_among`: the positions that are left are those still to be tried.
use Rattle.std.proofs.Common.{◌+◌, ◌*◌}
use Rattle.bits.specs.Bit.{word_bits}
use Rattle.verdict.specs.Insides.{may_tie}
use Rattle.verdict.specs.Laws.Sift.{Sifting}
use Rattle.verdict.proofs.inside.inside_among.Given as goal

abbrev pub invariant-loop-q : goal.invariant-loop-q
invariant-loop-q l =
    Sifting l.initial.inside (λ q. may_tie l.rows l.left l.v.0 (l.j * word_bits + q)) l.inside l.q-iterator.left
