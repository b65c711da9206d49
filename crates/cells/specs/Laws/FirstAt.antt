-- The first position of a word that passes a test, found by a walk over its positions: of every position that the walk
-- has passed it is known that it fails, so the first that passes is the lowest of all.
use Rattle.std.specs.Prelude.{ℕ, ◌≡◌, Bool, false, ◌&&◌}
use Rattle.std.proofs.Common.{le_refl, arith}
use Rattle.std.proofs.Math.Bool.{So, and-false}
use Rattle.bits.specs.Truth.{and_intro}
use Rattle.bits.specs.Counting.{Lowest, NextFrom}
use Rattle.bits.specs.Bit.{bit, word_bits}
use Rattle.bits.specs.Laws.Walk.{Walk, walk_begun, walk_before, walk_next, walk_ended}
use Rattle.bits.specs.Word.{LowestDropped}

-- the positions passed are none of the word's, or fail the test
abbrev pub Tried : ℕ → (ℕ → Bool) → ℕ → Type 0
Tried word test w = Walk word (λ q. (bit word q && test q) ≡ false) w

module _ (word : ℕ) (test : ℕ → Bool) where
  pub none_tried : Tried word test word
  none_tried = walk_begun (λ q l e. rw e)

  -- the next position passes
  pub lowest_passes : {w q : ℕ} → Tried word test w → Lowest word_bits (bit w) q → So (test q)
      → NextFrom (λ r. bit word r && test r) 0 word_bits q
  lowest_passes {w} {q} walk low p = record {
    not_before = omega arith;
    not_past = omega (arith, low.within);
    skipped = λ r from. walk_before walk low r;
    passes = λ l. and_intro (bit word q) (test q) (walk.kept q low.holds) p;
  }

  -- the next position fails
  pub one_tried : {w q rest : ℕ} → Tried word test w → Lowest word_bits (bit w) q → test q ≡ false
      → LowestDropped w rest → Tried word test rest
  one_tried {w} {q} walk low fails = walk_next walk low (rw fails (and-false (bit word q)))

  pub all_tried : Tried word test 0 → NextFrom (λ r. bit word r && test r) 0 word_bits word_bits
  all_tried walk = record {
    not_before = omega arith;
    not_past = le_refl word_bits;
    skipped = λ r from. walk_ended walk r;
    passes = λ l. absurd (omega arith);
  }
