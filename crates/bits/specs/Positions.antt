-- Taking the positions of a word one after the other. Assumes nothing.
use Rattle.std.specs.Prelude.{ℕ, ◌≡◌, ◌<◌, Option, Some, None}
use Rattle.bits.specs.Counting.{Lowest}
use Rattle.bits.specs.Bit.{bit, word_bits}
use Rattle.bits.specs.Word.{LowestDropped}

-- p is the lowest position of w, and r is w without it
pub record LowestTaken (w p r : ℕ) : Type 0 where
  pub some : 0 < w
  pub lowest : Lowest word_bits (bit w) p
  pub dropped : LowestDropped w r

-- what is taken of w, if it has a position, and the word that is then left
abbrev pub PositionTaken : ℕ → Option ℕ → ℕ → Type 0
PositionTaken w (Some p) r = LowestTaken w p r
PositionTaken w None r = (w ≡ 0) × (r ≡ w)
