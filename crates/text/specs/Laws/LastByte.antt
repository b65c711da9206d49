-- Cause 2 on a text that is taken by numbers: an empty text is of it, and any other has its last byte at one less
-- than its length. Assumes nothing.
use Rattle.std.specs.Prelude.{ℕ, suc, ◌-◌, ◌≡◌, refl, true, not, ◌||◌, [], ◌∷◌, eqb, length, get_or}
use Rattle.std.proofs.Common.{arith}
use Rattle.spec.specs.Vocabulary.{all}
use Rattle.spec.specs.Text.{Bytes, line_feed, allowed_byte, last_byte}
use Rattle.spec.specs.Refusal.{bad_bytes}

-- the byte before the end
abbrev pub byte_before_end : Bytes → ℕ
byte_before_end text = get_or text (length text - 1) 0

last_byte_there : (b : ℕ) (rest : Bytes) → last_byte (b ∷ rest) ≡ get_or (b ∷ rest) (length rest) 0
last_byte_there b [] = refl
last_byte_there b (next ∷ rest) = last_byte_there next rest

pub no_bytes_bad : (text : Bytes) → length text ≡ 0 → bad_bytes text ≡ true
unfolding bad_bytes
no_bytes_bad [] e = refl
no_bytes_bad (b ∷ rest) e = absurd (omega arith)

-- a text with some byte is of the cause where its last byte is no line feed, or a byte is not allowed
pub some_bytes_bad : (text : Bytes) → (length text ≡ 0 → ⊥)
    → bad_bytes text ≡ (not (eqb (byte_before_end text) line_feed) || not (all allowed_byte text))
unfolding bad_bytes
some_bytes_bad [] h = absurd (h refl)
some_bytes_bad (b ∷ rest) h =
    let same : suc (length rest) - 1 ≡ length rest = omega arith in
    rw (same, last_byte_there b rest)
