-- Small cases, each computed by the definitions themselves.
use Rattle.std.specs.Prelude.{◌≡◌, refl, true, false, ◌*◌, eqb, ltb}
use Rattle.std.proofs.Math.Option.{none, some}
use Rattle.spec.specs.Vocabulary.{every_below, lowest_below}
use Rattle.bits.specs.Counting.{some_below, count_below, sum_below}
use Rattle.bits.specs.Bit.{bit, word_bits}

-- 22, in digits 10110, has the positions 1, 2 and 4
three_positions : count_below word_bits (bit 0b10110) ≡ 3
unfolding count_below bit
three_positions = refl

lowest_of_three : lowest_below word_bits (bit 0b10110) ≡ some 1
unfolding lowest_below bit
lowest_of_three = refl

lowest_of_none : lowest_below word_bits (bit 0) ≡ none
unfolding lowest_below bit
lowest_of_none = refl

one_of_the_low_two : some_below 2 (bit 0b10110) ≡ true
unfolding some_below bit
one_of_the_low_two = refl

not_every_low_three : every_below 3 (bit 0b10110) ≡ false
unfolding every_below bit
not_every_low_three = refl

-- a triangle of 16 rows: counted row by row it is half a square without its diagonal
triangle : sum_below 16 (λ i. count_below 16 (λ j. ltb i j)) ≡ 8 * 15
unfolding sum_below count_below
triangle = refl

-- once a number is found the test is not computed again
found_early : lowest_below 64 (λ i. eqb (count_below 64 (ltb i)) 62) ≡ some 1
unfolding lowest_below count_below
found_early = refl
