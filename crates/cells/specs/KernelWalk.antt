-- Walking over a set of cells in rising number, word by word: the next cell is at the lowest position of a word from
-- where the walk stands, or in a later word. None is set between there and the next one.
use Rattle.std.specs.Prelude.{ℕ, ◌+◌, ◌*◌, ◌/◌, ◌%◌, ◌≤◌, ◌<◌, ◌≡◌, false, List, get_or}
use Rattle.std.proofs.Common.{arith, ⊎_elim}
use Rattle.bits.specs.Counting.{Skipped, NextFrom}
use Rattle.bits.specs.Laws.Below.{below_or_from}
use Rattle.bits.specs.Bit.{bit, word_bits}
use Rattle.cell_rows.specs.CellPlaces.{marked}

module _ (words : List ℕ) (from n p : ℕ) (next : NextFrom (bit (get_or words (n / word_bits) 0)) (n % word_bits)
    word_bits p) where
  -- a cell of the word
  in_word : (m : ℕ) → n ≤ m → m < n / word_bits * word_bits + p → marked words m ≡ false
  in_word m k l =
      let word : m / word_bits ≡ n / word_bits = omega (arith, next.not_past) in
      rw word (next.skipped (m % word_bits) (omega arith) (omega arith))

  pub passed_word : Skipped (marked words) from n → Skipped (marked words) from (n / word_bits * word_bits + p)
  passed_word earlier m k l = ⊎_elim (λ o. earlier m k o) (λ o. in_word m o l) (below_or_from m n)

  pub found_in_word : (end : ℕ) → from ≤ n → n / word_bits * word_bits + p < end → p < word_bits
      → Skipped (marked words) from n
      → NextFrom (marked words) from end (n / word_bits * word_bits + p)
  found_in_word end k l m earlier = record {
    not_before = omega (arith, next.not_before);
    not_past = omega arith;
    skipped = passed_word earlier;
    passes = λ o.
        let word : (n / word_bits * word_bits + p) / word_bits ≡ n / word_bits = omega arith in
        let position : (n / word_bits * word_bits + p) % word_bits ≡ p = omega arith in
        rw (word, position) (next.passes m);
  }
