-- What the contracts say of a word whose lowest position is dropped.
use Rattle.std.specs.Prelude.{◌≡◌, not, ◌&&◌, ℕ, ◌<◌, eqb}
use Rattle.bits.specs.Counting.{Lowest}
use Rattle.bits.specs.Bit.{bit, word_bits}

-- r has the positions of w but its lowest, and is the lesser number
pub record LowestDropped (w r : ℕ) : Type 0 where
  pub less : r < w
  pub others : {i : ℕ} → Lowest word_bits (bit w) i → (q : ℕ) → bit r q ≡ (bit w q && not (eqb q i))
