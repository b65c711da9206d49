-- The lowest position of a word from a place on: the positions from there on are those of the word shifted by the
-- place, so the lowest of these, counted from the place, comes next, and where the shifted word is 0 there is none.
use Rattle.std.specs.Prelude.{ℕ, ◌+◌, ◌-◌, ◌/◌, ◌^◌, ◌≤◌, ◌<◌, ◌≡◌}
use Rattle.std.proofs.Common.{le_refl, arith, sym, ap, ◌∙◌}
use Rattle.std.proofs.Math.Bool.{So}
use Rattle.bits.specs.Counting.{Lowest, NextFrom}
use Rattle.bits.specs.Bit.{bit, word_bits}
use Rattle.bits.specs.Laws.Bit.{bit_of_zero, bit_shift, bit_within}

module _ (word b : ℕ) where
  -- position b + j is position j of the word shifted by b
  shifted : (q : ℕ) → b ≤ q → bit word q ≡ bit (word / 2 ^ b) (q - b)
  shifted q l = sym (bit_shift word b (q - b) ∙ ap (bit word) (omega arith))

  pub shifted_to_none : b ≤ word_bits → word / 2 ^ b ≡ 0 → NextFrom (bit word) b word_bits word_bits
  shifted_to_none l e = record {
    not_before = l;
    not_past = le_refl word_bits;
    skipped = λ q k m. shifted q k ∙ rw e (bit_of_zero (q - b));
    passes = λ m. absurd (omega arith);
  }

  pub shifted_to_lowest : word < 2 ^ word_bits → {j : ℕ} → Lowest word_bits (bit (word / 2 ^ b)) j
      → NextFrom (bit word) b word_bits (b + j)
  shifted_to_lowest fits {j} low =
      let there : So (bit word (b + j)) = sym (bit_shift word b j) ∙ low.holds in
      record {
        not_before = omega arith;
        not_past = omega (arith, bit_within word_bits word fits {p = b + j} there);
        skipped = λ q k m. shifted q k ∙ low.first (q - b) (omega arith);
        passes = λ m. there;
      }
