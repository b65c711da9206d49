-- The bytes that a writing or a newcomer is lent. Assumes nothing.
use Rattle.std.specs.Prelude.{ℕ, ◌+◌, ◌*◌, ◌%◌, ◌≤◌, ◌<◌, ◌≡◌, List, length, get_or, set}
use Rattle.std.proofs.Common.{ne_of_lt, arith, below_none, below_more, ◌∙◌, length-set, get_or-set_same, get_or-set_other}

abbrev pub space_limit : ℕ
space_limit = 262_144

-- the byte at a place
abbrev pub pattern : ℕ → ℕ
pattern i = (31 * i + 7) % 256

-- the bytes below n are of the pattern
pub record Patterned (space : List ℕ) (n : ℕ) : Type 0 where
  pub whole : length space ≡ space_limit
  pub below : (i : ℕ) → i < n → get_or space i 0 ≡ pattern i

pub pattern_starts : (space : List ℕ) → length space ≡ space_limit → Patterned space 0
pattern_starts space e = record { whole = e; below = below_none (λ i. get_or space i 0 ≡ pattern i) }

pub pattern_goes_on : (space : List ℕ) (n b : ℕ) → Patterned space n → n < space_limit → b ≡ pattern n
    → Patterned (set space n b) (n + 1)
pattern_goes_on space n b p h e =
    record {
      whole = length-set space n b ∙ p.whole;
      below = below_more (λ i. get_or (set space n b) i 0 ≡ pattern i) n
          (λ i l. get_or-set_other space n i b 0 (ne_of_lt l) ∙ p.below i l)
          (get_or-set_same space n b 0 (omega (arith, p.whole)) ∙ e);
    }

pub pattern_ends : (space : List ℕ) (n : ℕ) → Patterned space n → space_limit ≤ n → Patterned space space_limit
pattern_ends space n p h = record { whole = p.whole; below = λ i l. p.below i (omega arith) }
