-- Four cells, each behind a comma, read from the eight bytes of one number, the lowest byte first; and the positions
-- of twice four cells brought side by side. Assumes nothing.
use Rattle.std.specs.Prelude.{ℕ, ◌+◌, ◌*◌, ◌/◌, ◌%◌, ◌^◌, ◌<◌, ◌≡◌, refl, Bool, true, false, ◌&&◌, eqb, get_or}
use Rattle.std.specs.Prelude.{Option, Some, None}
use Rattle.std.proofs.Common.{zero-mul, one-mul, arith, sym, ap, ◌∙◌, ⊎_elim, eqb-true, pow_pos}
use Rattle.std.proofs.Math.Bool.{So, and-false}
use Rattle.std.specs.Int.Bits.{bit_and, bit_or, and_lt, or_zero_r}
use Rattle.std.proofs.lemmas.Nat.{or_lt}
use Rattle.std.proofs.Math.Pow.{pow-lt}
use Rattle.bits.specs.Truth.{passes_or_fails, and_left, and_right}
use Rattle.bits.specs.Laws.Bit.{bit_of_and, bit_ext, bit_of_zero, bit_one_shifted, one_shifted}
use Rattle.bits.specs.Counting.{one_if}
use Rattle.bits.specs.Bit.{bit}
use Rattle.cell_text.specs.FourCells.{four_word, one_if_small}
use Rattle.spec.specs.Text.{Bytes}

-- four cells that are not set: the bytes `,0,0,0,0`
abbrev pub no_cells : ℕ
no_cells = 3471202379140706348

-- what cells that are set add to them
abbrev pub four_set : Bool → Bool → Bool → Bool → ℕ
four_set a b c d = one_if a * 2 ^ 8 + one_if b * 2 ^ 24 + one_if c * 2 ^ 40 + one_if d * 2 ^ 56

-- four bytes as one number, the first the lowest
pub record FourBytes (a b c d n : ℕ) : Type 0 where
  pub first : a < 256
  pub second : b < 256
  pub third : c < 256
  pub fourth : d < 256
  pub sum : n ≡ a + b * 256 + c * 65536 + d * 16777216

-- eight bytes of a text from a place on as one number
pub record EightBytes (text : Bytes) (at n : ℕ) : Type 0 where
  pub low : ℕ
  pub high : ℕ
  pub first : FourBytes (get_or text at 0) (get_or text (at + 1) 0) (get_or text (at + 2) 0) (get_or text (at + 3) 0)
      low
  pub second : FourBytes (get_or text (at + 4) 0) (get_or text (at + 5) 0) (get_or text (at + 6) 0)
      (get_or text (at + 7) 0)
      high
  pub sum : n ≡ low + high * 4294967296

-- a number has no position but those of four cells
abbrev pub SetsCells : ℕ → Type 0
SetsCells n = n ≡ four_set (bit n 8) (bit n 24) (bit n 40) (bit n 56)

-- the word of the cells that it sets
abbrev pub set_word : ℕ → ℕ
set_word n = four_word (bit n 8) (bit n 24) (bit n 40) (bit n 56)

-- what the number of four cells has beyond that of cells that are not set; or that it is the number of no four cells
abbrev pub SetOf : ℕ → Option ℕ → Type 0
SetOf n (Some set) = (n ≡ no_cells + set) × SetsCells set
SetOf n None = (a b c d : Bool) → n ≡ no_cells + four_set a b c d → ⊥

-- a test that passes in both cases, and one of four truth values that passes in all sixteen
abbrev each : (Bool → Bool) → Bool
each test = test true && test false

abbrev each_four : (Bool → Bool → Bool → Bool → Bool) → Bool
each_four test = each (λ a. each (λ b. each (λ c. each (λ d. test a b c d))))

in_each : (test : Bool → Bool) → So (each test) → (b : Bool) → So (test b)
in_each test e true = and_left (test true) (test false) e
in_each test e false = and_right (test true) (test false) e

in_each_four : (test : Bool → Bool → Bool → Bool → Bool) → So (each_four test) → (a b c d : Bool) → So (test a b c d)
in_each_four test e a b c d =
    in_each (λ d. test a b c d)
    (in_each (λ c. each (λ d. test a b c d))
    (in_each (λ b. each (λ c. each (λ d. test a b c d)))
    (in_each (λ a. each (λ b. each (λ c. each (λ d. test a b c d)))) e a) b) c) d

same_in_each : (f g : Bool → Bool → Bool → Bool → ℕ) → So (each_four (λ a b c d. eqb (f a b c d) (g a b c d)))
    → (a b c d : Bool) → f a b c d ≡ g a b c d
same_in_each f g e a b c d =
    eqb-true (f a b c d) (g a b c d) (in_each_four (λ a b c d. eqb (f a b c d) (g a b c d)) e a b c d)

-- the positions of four cells say which are set
abbrev pub set_read : ℕ → ℕ
set_read n = four_set (bit n 8) (bit n 24) (bit n 40) (bit n 56)

pub set_digits : (a b c d : Bool) → set_read (four_set a b c d) ≡ four_set a b c d
unfolding bit
set_digits = same_in_each (λ a b c d. set_read (four_set a b c d)) four_set refl

-- so they do in the number of the cells
pub set_of_cells : (a b c d : Bool) → set_read (no_cells + four_set a b c d) ≡ four_set a b c d
unfolding bit
set_of_cells = same_in_each (λ a b c d. set_read (no_cells + four_set a b c d)) four_set refl

-- so do the positions of their word
abbrev pub word_read : ℕ → ℕ
word_read n = four_set (bit n 0) (bit n 1) (bit n 2) (bit n 3)

pub word_digits : (a b c d : Bool) → word_read (four_word a b c d) ≡ four_set a b c d
unfolding bit
word_digits = same_in_each (λ a b c d. word_read (four_word a b c d)) four_set refl

-- the positions of twice four cells as the code brings them side by side
abbrev pub brought_together : ℕ → ℕ → ℕ
brought_together first second =
    let all : ℕ = first + second * 16 in
    let pairs : ℕ = all + all / 2 ^ 15 in
    (pairs / 2 ^ 8 + pairs / 2 ^ 38) % 256

abbrev both_words : ℕ → ℕ → ℕ
both_words first second = bit_or first (second * 2 ^ 4)

-- computed in each of the 256 cases
together : (a b c d e f g h : Bool) → brought_together (four_set a b c d) (four_set e f g h) ≡ both_words
    (four_word a b c d) (four_word e f g h)
together a b c d =
    same_in_each (λ e f g h. brought_together (four_set a b c d) (four_set e f g h)) (λ e f g h. both_words
    (four_word a b c d) (four_word e f g h))
    (in_each_four (λ a b c d. each_four (λ e f g h.
    eqb (brought_together (four_set a b c d) (four_set e f g h)) (both_words (four_word a b c d) (four_word e f g h))))
    refl a b c d)

pub sets_together : (first second : ℕ) → SetsCells first → SetsCells second
    → brought_together first second ≡ bit_or (set_word first) (set_word second * 2 ^ 4)
sets_together first second e f =
    ap (λ (n : ℕ). brought_together n second) e
    ∙ ap (λ (n : ℕ). brought_together (four_set (bit first 8) (bit first 24) (bit first 40) (bit first 56)) n) f
    ∙ together (bit first 8) (bit first 24) (bit first 40) (bit first 56) (bit second 8) (bit second 24) (bit second 40)
    (bit second 56)

pub word_small : (a b c d : Bool) → four_word a b c d < 2 ^ 4
word_small a b c d = omega (arith, one_if_small a, one_if_small b, one_if_small c, one_if_small d)

-- a number of no cells; beside it only the other's cells are left
pub none_set : SetsCells 0
unfolding bit
none_set = refl

pub word_alone : (n : ℕ) → bit_or (set_word n) (set_word 0 * 2 ^ 4) ≡ set_word n
unfolding bit
word_alone n = or_zero_r (set_word n)

pub words_small : (first second : ℕ) → bit_or (set_word first) (set_word second * 2 ^ 4) < 2 ^ 8
words_small first second =
    let low = word_small (bit first 8) (bit first 24) (bit first 40) (bit first 56) in
    let high = word_small (bit second 8) (bit second 24) (bit second 40) (bit second 56) in
    or_lt 8 (set_word first) (set_word second * 2 ^ 4) (omega arith) (omega arith)

pub set_small : (a b c d : Bool) → four_set a b c d < 2 ^ 57
set_small a b c d = omega (arith, one_if_small a, one_if_small b, one_if_small c, one_if_small d)

-- a digit at its place has that position alone
bit_placed : (b : Bool) (p q : ℕ) → bit (one_if b * 2 ^ p) q ≡ (b && eqb q p)
bit_placed true p q = rw (one-mul (2 ^ p)) (bit_one_shifted p q)
bit_placed false p q = rw (zero-mul (2 ^ p)) (bit_of_zero q)

placed_fits : (b : Bool) (p : ℕ) → p < 64 → one_if b * 2 ^ p < 2 ^ 64
placed_fits true p h = rw (one-mul (2 ^ p)) (pow-lt h)
placed_fits false p h = rw (zero-mul (2 ^ p)) (pow_pos 64)

same_position : (n p q : ℕ) → (bit n q && eqb q p) ≡ (bit n p && eqb q p)
same_position n p q =
    ⊎_elim (λ e. ap (λ (m : ℕ). bit n m && eqb q p) (eqb-true q p e))
    (λ f. rw f (and-false (bit n q) ∙ sym (and-false (bit n p)))) (passes_or_fails (eqb q p))

-- a number without its other positions
pub kept_digit : (n p : ℕ) → n < 2 ^ 64 → p < 64 → bit_and n (1 * 2 ^ p % 2 ^ 64) ≡ one_if (bit n p) * 2 ^ p
kept_digit n p f h =
    rw (one_shifted 64 h)
    (bit_ext 64 (bit_and n (2 ^ p)) (one_if (bit n p) * 2 ^ p) (and_lt 64 n (2 ^ p) f (pow-lt h))
    (placed_fits (bit n p) p h)
    (λ q l. bit_of_and n (2 ^ p) q ∙ ap (λ (b : Bool). bit n q && b) (bit_one_shifted p q) ∙ same_position n p q
    ∙ sym (bit_placed (bit n p) p q)))

-- a number that has no position but those of four cells says those of its word
pub set_says : (s : ℕ) → SetsCells s → s ≡ word_read (set_word s)
set_says s e = e ∙ sym (word_digits (bit s 8) (bit s 24) (bit s 40) (bit s 56))
