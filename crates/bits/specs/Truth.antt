-- What follows from a test that passes or fails. A test passes where it is true, `So b`, which is `b ≡ true`.
use Rattle.std.specs.Prelude.{ℕ, ◌≡◌, refl, ◌⊎◌, Bool, true, false, not, ◌&&◌, ◌||◌, eqb}
use Rattle.std.proofs.Common.{sym, ◌∙◌, inl, inr, eqb-true, eq-eqb}
use Rattle.std.proofs.Math.Bool.{So}
use Rattle.std.specs.Bool.{beq}
use Rattle.std.proofs.lemmas.Bool.{false≢true}

pub passes_or_fails : (b : Bool) → So b ⊎ (b ≡ false)
passes_or_fails true = inl refl
passes_or_fails false = inr refl

pub not_both : {b : Bool} → So b → b ≡ false → ⊥
not_both p f = false≢true (sym f ∙ p)

pub fails_unless : (b : Bool) → (So b → ⊥) → b ≡ false
fails_unless true h = absurd (h refl)
fails_unless false h = refl

-- two tests that pass together are one
pub same_truth : (a b : Bool) → (So a → So b) → (So b → So a) → a ≡ b
same_truth true b f g = sym (f refl)
same_truth false b f g = sym (fails_unless b (λ p. false≢true (g p)))

-- whether two numbers are equal, asked the other way round
pub eqb_comm : (a b : ℕ) → eqb a b ≡ eqb b a
eqb_comm a b =
    same_truth (eqb a b) (eqb b a) (λ e. eq-eqb b a (sym (eqb-true a b e))) (λ e. eq-eqb a b (sym (eqb-true b a e)))

-- two truth values that are found the same are one
pub beq_same : (a b : Bool) → So (beq a b) → a ≡ b
beq_same true true e = refl
beq_same true false e = absurd (false≢true e)
beq_same false true e = absurd (false≢true e)
beq_same false false e = refl

pub beq_refl : (b : Bool) → So (beq b b)
beq_refl true = refl
beq_refl false = refl

-- b passes where a does
abbrev pub implies : Bool → Bool → Bool
implies a b = not a || b

pub implies_intro : (a b : Bool) → (So a → So b) → So (implies a b)
implies_intro true b h = h refl
implies_intro false b h = refl

pub implies_elim : (a b : Bool) → So (implies a b) → So a → So b
implies_elim true b e p = e
implies_elim false b e p = absurd (false≢true p)

pub not_passes : (b : Bool) → b ≡ false → So (not b)
not_passes true e = sym e
not_passes false e = refl

pub not_fails : (b : Bool) → So (not b) → b ≡ false
not_fails true e = sym e
not_fails false e = refl

pub and_intro : (a b : Bool) → So a → So b → So (a && b)
and_intro true b p q = q
and_intro false b p q = p

pub and_left : (a b : Bool) → So (a && b) → So a
and_left true b e = refl
and_left false b e = e

pub and_right : (a b : Bool) → So (a && b) → So b
and_right true b e = e
and_right false b e = absurd (false≢true e)

pub and_absorbs : (a b : Bool) → So (implies a b) → (a && b) ≡ a
and_absorbs true b e = e
and_absorbs false b e = refl

pub and_left_comm : (a b c : Bool) → (a && (b && c)) ≡ (b && (a && c))
and_left_comm true b c = refl
and_left_comm false true c = refl
and_left_comm false false c = refl

pub or_left : (a b : Bool) → So a → So (a || b)
or_left true b p = refl
or_left false b p = absurd (false≢true p)

pub or_right : (a b : Bool) → So b → So (a || b)
or_right true b p = refl
or_right false b p = p

pub or_cases : (a b : Bool) → So (a || b) → So a ⊎ So b
or_cases true b e = inl refl
or_cases false b e = inr e

pub or_fails : (a b : Bool) → a ≡ false → b ≡ false → (a || b) ≡ false
or_fails true b p q = p
or_fails false b p q = q

pub or_fails_left : (a b : Bool) → (a || b) ≡ false → a ≡ false
or_fails_left true b e = e
or_fails_left false b e = refl

pub or_fails_right : (a b : Bool) → (a || b) ≡ false → b ≡ false
or_fails_right true b e = absurd (false≢true (sym e))
or_fails_right false b e = e

pub or_left_comm : (a b c : Bool) → (a || (b || c)) ≡ (b || (a || c))
or_left_comm true true c = refl
or_left_comm true false c = refl
or_left_comm false b c = refl
