-- A walk over the positions of a word, from the lowest on: `while w != 0` with `lowest` and `without_lowest`. Those still
-- to come are the positions of w, of which the lowest is the next; of every other one it is known what is to be known.
use Rattle.std.specs.Prelude.{ℕ, ◌<◌, ◌≡◌, false, not, eqb}
use Rattle.std.proofs.Common.{arith, sym, ◌∙◌, ⊎_elim, eqb-true}
use Rattle.std.proofs.Math.Bool.{So, and-true}
use Rattle.bits.specs.Truth.{passes_or_fails, and_left}
use Rattle.bits.specs.Counting.{Lowest}
use Rattle.bits.specs.Bit.{bit, word_bits}
use Rattle.bits.specs.Laws.Bit.{bit_of_zero}
use Rattle.bits.specs.Word.{LowestDropped}

-- the positions of w are some of the word's, and of every other one it is known what is to be known
pub record Walk (word : ℕ) (known : ℕ → Type 0) (w : ℕ) : Type 0 where
  pub kept : (q : ℕ) → So (bit w q) → So (bit word q)
  pub passed : (q : ℕ) → q < word_bits → bit w q ≡ false → known q

-- a position that is dropped is the lowest, or was dropped before
pub dropped_or_before : {w q rest : ℕ} → Lowest word_bits (bit w) q → LowestDropped w rest → (r : ℕ)
    → eqb r q ≡ false → bit rest r ≡ false → bit w r ≡ false
dropped_or_before {w} low dropped r other e =
    sym (and-true (bit w r)) ∙ (rw other at (sym (dropped.others low r) ∙ e))

module _ {word : ℕ} {known : ℕ → Type 0} where
  -- at first only what is at no position of the word has been passed
  pub walk_begun : ((q : ℕ) → q < word_bits → bit word q ≡ false → known q) → Walk word known word
  walk_begun others = record { kept = λ q p. p; passed = others }

  -- all before the next position have been passed
  pub walk_before : {w q : ℕ} → Walk word known w → Lowest word_bits (bit w) q → (r : ℕ) → r < q → known r
  walk_before walk low r l = walk.passed r (omega (arith, low.within)) (low.first r l)

  -- the next position is passed, and what was known of the others stays known, though in other words
  pub walk_on : {later : ℕ → Type 0} {w q rest : ℕ} → Walk word known w → Lowest word_bits (bit w) q
      → LowestDropped w rest → ((r : ℕ) → known r → later r) → later q → Walk word later rest
  walk_on {later} {w} {q} walk low dropped still here =
      record {
        kept = λ r p. walk.kept r (and_left (bit w r) (not (eqb r q)) (sym (dropped.others low r) ∙ p));
        passed = λ r l e. ⊎_elim (λ same. rw (eqb-true r q same) here)
            (λ other. still r (walk.passed r l (dropped_or_before low dropped r other e)))
            (passes_or_fails (eqb r q));
      }

  pub walk_next : {w q rest : ℕ} → Walk word known w → Lowest word_bits (bit w) q → known q → LowestDropped w rest
      → Walk word known rest
  walk_next walk low here dropped = walk_on walk low dropped (λ r k. k) here

  -- at the end all have been passed
  pub walk_ended : Walk word known 0 → (q : ℕ) → q < word_bits → known q
  walk_ended walk q l = walk.passed q l (bit_of_zero q)
