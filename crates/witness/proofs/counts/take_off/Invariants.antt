-- `counts::take_off`: the words of the columns are passed one after the other. The counts of the users still to come
-- are as they were, and a user whom no column reaches has no grant that fits.
use Rattle.std.proofs.Common.{◌*◌}
use Rattle.bits.specs.Bit.{word_bits}
use Rattle.witness.specs.CountChange.{TakenOff, fit_count, of_users_below}
use Rattle.witness.proofs.counts.take_off.Given as goal

abbrev pub invariant-loop-j : goal.invariant-loop-j
invariant-loop-j l =
    TakenOff (of_users_below l.left (l.j * word_bits)) (fit_count l.rows l.these.user.0 l.these.words) l.initial.counts l.counts
