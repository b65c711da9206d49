-- The positions of a word that pass a test, found by a walk over them. One that fails is left out, so of those tried
-- the ones that pass are kept; those still to come are kept too.
use Rattle.std.specs.Prelude.{ℕ, ◌<◌, ◌≡◌, refl, Bool, false, not, ◌&&◌, eqb}
use Rattle.std.proofs.Common.{sym, ◌∙◌, ⊎_elim, eq-eqb, eqb-true}
use Rattle.std.proofs.Math.Bool.{So, and-true, and-false}
use Rattle.bits.specs.Bit.{bit, word_bits}
use Rattle.bits.specs.Counting.{Lowest}
use Rattle.bits.specs.Truth.{passes_or_fails, and_left, and_right, not_fails}
use Rattle.bits.specs.Laws.Walk.{Walk, walk_begun, walk_next, walk_on, walk_ended}
use Rattle.bits.specs.Word.{LowestDropped}

-- the positions of w are still to be tried
pub record Sifting (word : ℕ) (test : ℕ → Bool) (kept w : ℕ) : Type 0 where
  pub walk : Walk word (λ q. bit kept q ≡ test q) w
  pub to_come : (q : ℕ) → So (bit w q) → So (bit kept q)

module _ (word : ℕ) (test : ℕ → Bool) where
  -- at first all are kept
  pub none_sifted : ((q : ℕ) → q < word_bits → bit word q ≡ false → test q ≡ false) → Sifting word test word word
  none_sifted others = record { walk = walk_begun (λ q l e. e ∙ sym (others q l e)); to_come = λ q p. p }

  module _ {kept w q rest : ℕ} (sifting : Sifting word test kept w) (low : Lowest word_bits (bit w) q)
      (dropped : LowestDropped w rest) where
    -- the next position passes
    pub sifted_kept : So (test q) → Sifting word test kept rest
    sifted_kept p = record {
      walk = walk_next sifting.walk low (sifting.to_come q low.holds ∙ sym p) dropped;
      to_come = λ r e. sifting.to_come r (and_left (bit w r) (not (eqb r q)) (sym (dropped.others low r) ∙ e));
    }

    -- the next position fails
    pub sifted_out : (less : ℕ) → ((r : ℕ) → bit less r ≡ (bit kept r && not (eqb r q))) → test q ≡ false
        → Sifting word test less rest
    sifted_out less says f = record {
      walk = walk_on sifting.walk low dropped
          (λ r known. ⊎_elim
          (λ same. rw (eqb-true r q same) (out ∙ sym f))
          (λ other. says r ∙ rw other (and-true (bit kept r)) ∙ known)
          (passes_or_fails (eqb r q)))
          (out ∙ sym f);
      to_come = λ r e.
          let both = sym (dropped.others low r) ∙ e in
          says r ∙ rw (not_fails (eqb r q) (and_right (bit w r) (not (eqb r q)) both))
          (and-true (bit kept r) ∙ sifting.to_come r (and_left (bit w r) (not (eqb r q)) both));
    }
      where
        out : bit less q ≡ false
        out = says q ∙ rw (eq-eqb q q refl) (and-false (bit kept q))

  pub all_sifted : {kept : ℕ} → Sifting word test kept 0 → (q : ℕ) → q < word_bits → bit kept q ≡ test q
  all_sifted sifting = walk_ended sifting.walk
