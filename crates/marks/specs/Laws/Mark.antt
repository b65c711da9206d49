-- What the words of a set of marks say: a number below the first word's width is marked by that word, any other by
-- the second. So a law holds of every number once it holds of each word's positions.
use Rattle.std.specs.Prelude.{ℕ, ◌+◌, ◌-◌, ◌≤◌, ◌<◌, ◌≡◌, refl, Bool, true, false, not, ◌&&◌, ◌||◌, cond, eqb}
use Rattle.std.proofs.Common.{ap, ◌∙◌, ⊎_elim, add-sub_of_le, arith, lt-ltb, le-ltb, eqb-true, eq-eqb, ne_eqb}
use Rattle.spec.specs.Vocabulary.{every_below}
use Rattle.bits.specs.Truth.{implies, same_truth}
use Rattle.bits.specs.Laws.Below.{below_or_from, every_below_add, every_below_ext}
use Rattle.bits.specs.Bit.{bit, word_bits}
use Rattle.marks.specs.declared.marks.Marks.{Marks}
use Rattle.marks.specs.Marks.{mark_limit, marked}

pub marked_low : (m : Marks) {p : ℕ} → p < word_bits → marked m p ≡ bit m.low p
marked_low m {p} l = rw (lt-ltb p word_bits l)

pub marked_high : (m : Marks) {p : ℕ} → word_bits ≤ p → marked m p ≡ bit m.high (p - word_bits)
marked_high m {p} l = rw (le-ltb p word_bits l)

pub marked_later : (m : Marks) (p : ℕ) → marked m (word_bits + p) ≡ bit m.high p
marked_later m p =
    let e : word_bits + p - word_bits ≡ p = omega arith in
    marked_high m {p = word_bits + p} (omega arith) ∙ rw e

-- a law of all numbers from a law of each word's positions
pub by_words : (m : Marks) (f : ℕ → Bool) → ((p : ℕ) → p < word_bits → bit m.low p ≡ f p)
    → ((p : ℕ) → bit m.high p ≡ f (word_bits + p)) → (p : ℕ) → marked m p ≡ f p
by_words m f low high p =
    ⊎_elim (λ l. marked_low m l ∙ low p l)
    (λ l. marked_high m l ∙ high (p - word_bits) ∙ ap f (add-sub_of_le l)) (below_or_from p word_bits)

-- a position of the high word is that much past the low one
pub eqb_later : (p n : ℕ) → word_bits ≤ n → eqb p (n - word_bits) ≡ eqb (word_bits + p) n
eqb_later p n l =
    same_truth (eqb p (n - word_bits)) (eqb (word_bits + p) n)
    (λ e. eq-eqb (word_bits + p) n (omega (arith, eqb-true p (n - word_bits) e)))
    (λ e. eq-eqb p (n - word_bits) (omega (arith, eqb-true (word_bits + p) n e)))

-- ---- one number put in or taken out, in the word that has its position

pub put_in : (was here : Bool) → (was || here) ≡ cond here true was
put_in true true = refl
put_in true false = refl
put_in false true = refl
put_in false false = refl

pub taken_out : (was here : Bool) → (was && not here) ≡ cond here false was
taken_out true true = refl
taken_out true false = refl
taken_out false true = refl
taken_out false false = refl

module _ (change : Bool → Bool → Bool) (keeps : (b : Bool) → change b false ≡ b) (m after : Marks) (p : ℕ) where
  pub changed_low :
      p < word_bits → ((q : ℕ) → bit after.low q ≡ change (bit m.low q) (eqb q p)) → after.high ≡ m.high
      → (q : ℕ) → marked after q ≡ change (marked m q) (eqb q p)
  changed_low l low same =
      by_words after (λ q. change (marked m q) (eqb q p)) (λ q k. rw (marked_low m k) (low q))
      (λ q. rw (marked_later m q, ne_eqb (word_bits + q) p (λ e. omega arith), keeps, same))

  pub changed_high :
      word_bits ≤ p → after.low ≡ m.low → ((q : ℕ) → bit after.high q ≡ change (bit m.high q)
      (eqb q (p - word_bits)))
      → (q : ℕ) → marked after q ≡ change (marked m q) (eqb q p)
  changed_high l same high =
      by_words after (λ q. change (marked m q) (eqb q p))
      (λ q k. rw (marked_low m k, ne_eqb q p (λ e. omega arith), keeps, same))
      (λ q. rw (marked_later m q, ← eqb_later q p l) (high q))

-- ---- whole sets

-- every number of m is in the other just where each word's positions are
pub within_words : (m other : Marks)
    → every_below mark_limit (λ p. implies (marked m p) (marked other p))
    ≡ (every_below word_bits (λ p. implies (bit m.low p) (bit other.low p))
    && every_below word_bits (λ p. implies (bit m.high p) (bit other.high p)))
within_words m other =
    every_below_add word_bits word_bits (λ p. implies (marked m p) (marked other p))
    ∙ rw (
      every_below_ext word_bits (λ p. implies (marked m p) (marked other p)) (λ p. implies (bit m.low p)
          (bit other.low p))
          (λ p l. rw (marked_low m l, marked_low other l)),
      every_below_ext word_bits (λ p. implies (marked m (word_bits + p)) (marked other (word_bits + p)))
          (λ p. implies (bit m.high p) (bit other.high p)) (λ p l. rw (marked_later m p, marked_later other p)),
    )
