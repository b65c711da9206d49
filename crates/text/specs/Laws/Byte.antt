-- Which bytes a name can have, and which a sheet: a byte of a name is neither comma nor line feed, and any other
-- allowed byte is a byte of a name. Assumes nothing.
use Rattle.std.specs.Prelude.{ℕ, ◌≤◌, ◌≡◌, refl, false, ◌||◌, eqb, leb}
use Rattle.std.proofs.Common.{sym, subst, ⊎_elim, leb-true, le-leb, eqb-true, eq-eqb}
use Rattle.std.proofs.Math.Bool.{So}
use Rattle.spec.specs.Text.{comma, line_feed, between, name_byte, allowed_byte}
use Rattle.bits.specs.Truth.{not_both, fails_unless, and_intro, and_left, and_right, or_left, or_cases}

-- n lies between two bounds
pub between_intro : (low high n : ℕ) → low ≤ n → n ≤ high → So (between low high n)
between_intro low high n h k = and_intro (leb low n) (leb n high) (le-leb low n h) (le-leb n high k)

pub between_low : (low high n : ℕ) → So (between low high n) → low ≤ n
between_low low high n p = leb-true low n (and_left (leb low n) (leb n high) p)

pub between_high : (low high n : ℕ) → So (between low high n) → n ≤ high
between_high low high n p = leb-true n high (and_right (leb low n) (leb n high) p)

-- a byte of a name differs from every byte that is none
other_byte : (b c : ℕ) → So (name_byte b) → name_byte c ≡ false → eqb c b ≡ false
other_byte b c p f =
    fails_unless (eqb c b) (λ e. not_both p (subst (λ (d : ℕ). name_byte d ≡ false) (eqb-true c b e) f))

pub name_byte_no_comma : (b : ℕ) → So (name_byte b) → eqb comma b ≡ false
unfolding name_byte
name_byte_no_comma b p = other_byte b comma p refl

pub name_byte_no_line_feed : (b : ℕ) → So (name_byte b) → eqb line_feed b ≡ false
unfolding name_byte
name_byte_no_line_feed b p = other_byte b line_feed p refl

-- a byte of a name is allowed, and so are comma and line feed
pub name_byte_allowed : (b : ℕ) → So (name_byte b) → So (allowed_byte b)
unfolding allowed_byte
name_byte_allowed b p =
    or_left (name_byte b || eqb b comma) (eqb b line_feed) (or_left (name_byte b) (eqb b comma) p)

pub comma_allowed : So (allowed_byte comma)
unfolding allowed_byte
comma_allowed = refl

pub line_feed_allowed : So (allowed_byte line_feed)
unfolding allowed_byte
line_feed_allowed = refl

swapped : (b c : ℕ) → So (eqb b c) → So (eqb c b)
swapped b c e = eq-eqb c b (sym (eqb-true b c e))

-- an allowed byte that is neither comma nor line feed is a byte of a name
pub allowed_name_byte : (b : ℕ) → So (allowed_byte b) → eqb comma b ≡ false → eqb line_feed b ≡ false → So (name_byte b)
unfolding allowed_byte
allowed_name_byte b p c f =
    ⊎_elim (λ q. ⊎_elim (λ r. r) (λ r. absurd (not_both (swapped b comma r) c)) (or_cases (name_byte b) (eqb b comma)
    q))
    (λ q. absurd (not_both (swapped b line_feed q) f)) (or_cases (name_byte b || eqb b comma) (eqb b line_feed) p)
