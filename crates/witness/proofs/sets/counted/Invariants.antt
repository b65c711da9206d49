-- `sets::counted`: after i words the sum is how many of the cells below i * word-bits are set.
use Rattle.std.proofs.Common.{◌≡◌, ◌*◌}
use Rattle.bits.specs.Counting.{count_below}
use Rattle.bits.specs.Bit.{word_bits}
use Rattle.cell_rows.specs.CellPlaces.{marked}
use Rattle.witness.proofs.sets.counted.Given as goal

abbrev pub invariant-loop-word : goal.invariant-loop-word
invariant-loop-word l = l.n ≡ count_below (l.word-index * word_bits) (marked l.words)
