-- Adler-32: the sum of the bytes and the sum of those sums, each modulo the greatest prime below 65,536. Assumes
-- nothing.
use Rattle.std.specs.Prelude.{ℕ, ◌+◌, ◌*◌, ◌%◌, ◌<◌, ◌≡◌, List, [], ◌∷◌, length, get_or, drop}
use Rattle.std.proofs.Common.{add-one, drop-cons}

abbrev pub adler_base : ℕ
adler_base = 65_521

-- the two sums go on over the bytes, and are then joined
abbrev pub adler_from : ℕ → ℕ → List ℕ → ℕ
adler_from low high [] = high * 65_536 + low
adler_from low high (b ∷ rest) =
    adler_from ((low + b) % adler_base) ((high + (low + b) % adler_base) % adler_base) rest

abbrev pub adler_32 : List ℕ → ℕ
adler_32 bytes = adler_from 1 0 bytes

-- the sums with the byte at a place
pub adler_next : (low high : ℕ) (s : List ℕ) (i : ℕ) → i < length s
    → adler_from low high (drop i s)
    ≡ adler_from ((low + get_or s i 0) % adler_base) ((high + (low + get_or s i 0) % adler_base) % adler_base)
    (drop (i + 1) s)
adler_next low high s i h = rw (add-one i, drop-cons s i 0 h)
