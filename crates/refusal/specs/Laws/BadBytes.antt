-- Cause 2 by how a text ends: with a line feed, or not. Assumes nothing.
use Rattle.std.specs.Prelude.{ℕ, suc, ◌-◌, ◌≤◌, ◌<◌, ◌≡◌, refl, not, ◌||◌, [], ◌∷◌, eqb, length, get_or}
use Rattle.std.specs.List.{ends_with}
use Rattle.std.proofs.Common.{arith, ◌∙◌, drop_of_length-le, drop-cons}
use Rattle.std.proofs.Math.Bool.{and-true}
use Rattle.spec.specs.Vocabulary.{all}
use Rattle.spec.specs.Text.{Bytes, line_feed, allowed_byte}
use Rattle.spec.specs.Refusal.{bad_bytes}
use Rattle.bits.specs.Truth.{eqb_comm}
use Rattle.text.specs.Laws.LastByte.{byte_before_end, no_bytes_bad, some_bytes_bad}

-- a text with some byte ends with a byte where that is its last
ends : (b : ℕ) (rest : Bytes)
    → ends_with eqb (b ∷ rest) (line_feed ∷ []) ≡ eqb (byte_before_end (b ∷ rest)) line_feed
ends b rest =
    let last : ℕ = suc (length rest) - 1 in
    let below : last < length (b ∷ rest) = omega arith in
    let past : length (b ∷ rest) ≤ suc last = omega arith in
    rw (drop-cons (b ∷ rest) last 0 below, drop_of_length-le (b ∷ rest) past)
    (and-true (eqb line_feed (get_or (b ∷ rest) last 0)) ∙ eqb_comm line_feed (get_or (b ∷ rest) last 0))

pub bad_as_ended : (text : Bytes)
    → bad_bytes text ≡ (not (ends_with eqb text (line_feed ∷ [])) || not (all allowed_byte text))
bad_as_ended [] = no_bytes_bad [] refl
bad_as_ended (b ∷ rest) =
    some_bytes_bad (b ∷ rest) (λ e. absurd (omega arith))
    ∙ rw (ends b rest)
