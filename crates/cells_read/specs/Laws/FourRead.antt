-- Cells read four and eight at once: eight bytes whose number says four cells are those cells, and cells behind others
-- are that many more. Assumes nothing.
use Rattle.std.specs.Prelude.{ℕ, zero, suc, ◌+◌, ◌-◌, ◌*◌, ◌%◌, ◌^◌, ◌≤◌, ◌<◌, ◌≡◌, refl, Bool, true, false, ◌||◌}
use Rattle.std.specs.Prelude.{length, get_or}
use Rattle.std.proofs.Common.{mod-eq_of_lt, lt_of_lt_of_le, pow_mono, shl_lt, arith, sym, ap, ◌∙◌, ⊎_elim}
use Rattle.std.specs.Int.Bits.{bit_or}
use Rattle.std.proofs.Math.Bool.{or-false}
use Rattle.spec.specs.Text.{Bytes, comma}
use Rattle.bits.specs.Counting.{one_if}
use Rattle.bits.specs.Laws.Below.{below_or_from}
use Rattle.bits.specs.Bit.{bit}
use Rattle.bits.specs.Laws.Bit.{bit_above, bit_of_or, bit_shift_left, bit_shift_left_low}
use Rattle.cells_read.specs.CellsWord.{cell_byte, CellsStand, CellsIn}
use Rattle.cell_text.specs.FourCells.{one_if_small}
use Rattle.cells_read.specs.FourRead.{no_cells, four_set, FourBytes, EightBytes, SetsCells, set_word, set_says}
use Rattle.cells_read.specs.FourRead.{word_small}

-- a cell's byte is the digit's
byte_is : (b : Bool) → cell_byte b ≡ 48 + one_if b
byte_is true = refl
byte_is false = refl

-- the bytes of two cells
record TwoCells (a b c d : ℕ) (x y : Bool) : Type 0 where
  first_comma : a ≡ comma
  first_cell : b ≡ cell_byte x
  second_comma : c ≡ comma
  second_cell : d ≡ cell_byte y

two_cells : (a b c d n : ℕ) (x y : Bool) → FourBytes a b c d n → n ≡ 808202284 + one_if x * 256 + one_if y * 16777216
    → TwoCells a b c d x y
two_cells a b c d n x y f e =
    record {
      first_comma = omega (arith, one_if_small x, one_if_small y);
      first_cell = rw (byte_is x) (omega (arith, one_if_small x, one_if_small y));
      second_comma = omega (arith, one_if_small x, one_if_small y);
      second_cell = rw (byte_is y) (omega (arith, one_if_small x, one_if_small y));
    }

module _ (text : Bytes) (at low high : ℕ)
    (l : FourBytes (get_or text (at + 2 * 0) 0) (get_or text (at + 2 * 0 + 1) 0) (get_or text (at + 2 * 1) 0)
    (get_or text (at + 2 * 1 + 1) 0) low)
    (h : FourBytes (get_or text (at + 2 * 2) 0) (get_or text (at + 2 * 2 + 1) 0) (get_or text (at + 2 * 3) 0)
    (get_or text (at + 2 * 3 + 1) 0) high)
  where
    abbrev both : ℕ
    both = low + high * 4294967296

    -- the number of cells that stand there
    stands_said : (ones : ℕ → Bool) → CellsStand text at 4 ones → both ≡ no_cells + four_set (ones 0) (ones 1)
        (ones 2) (ones 3)
    stands_said ones c =
        rw (
          l.sum,
          h.sum,
          c.commas 0 (omega arith),
          c.commas 1 (omega arith),
          c.commas 2 (omega arith),
          c.commas 3 (omega arith),
          c.cells 0 (omega arith),
          c.cells 1 (omega arith),
          c.cells 2 (omega arith),
          c.cells 3 (omega arith),
          byte_is (ones 0),
          byte_is (ones 1),
          byte_is (ones 2),
          byte_is (ones 3),
        ) (omega arith)

    -- the cells that a number says
    said_stands : at + 8 ≤ length text → (ones : ℕ → Bool) → both ≡ no_cells + four_set (ones 0) (ones 1) (ones 2)
        (ones 3) → CellsStand text at 4 ones
    said_stands w ones e =
        record {
          within = omega (arith, w);
          commas = commas_there;
          cells = cells_there;
        }
      where
        low_two : TwoCells (get_or text (at + 2 * 0) 0) (get_or text (at + 2 * 0 + 1) 0) (get_or text (at + 2 * 1) 0)
            (get_or text (at + 2 * 1 + 1) 0) (ones 0) (ones 1)
        low_two = two_cells _ _ _ _ low (ones 0) (ones 1) l (omega (
          arith,
          e,
          one_if_small (ones 0),
          one_if_small (ones 1),
        ))

        high_two : TwoCells (get_or text (at + 2 * 2) 0) (get_or text (at + 2 * 2 + 1) 0) (get_or text (at + 2 * 3) 0)
            (get_or text (at + 2 * 3 + 1) 0) (ones 2) (ones 3)
        high_two = two_cells _ _ _ _ high (ones 2) (ones 3) h (omega (
          arith,
          e,
          one_if_small (ones 0),
          one_if_small (ones 1),
        ))

        commas_there : (i : ℕ) → i < 4 → get_or text (at + 2 * i) 0 ≡ comma
        commas_there zero k = low_two.first_comma
        commas_there (suc zero) k = low_two.second_comma
        commas_there (suc (suc zero)) k = high_two.first_comma
        commas_there (suc (suc (suc zero))) k = high_two.second_comma
        commas_there (suc (suc (suc (suc i)))) k = absurd (omega arith)

        cells_there : (i : ℕ) → i < 4 → get_or text (at + 2 * i + 1) 0 ≡ cell_byte (ones i)
        cells_there zero k = low_two.first_cell
        cells_there (suc zero) k = low_two.second_cell
        cells_there (suc (suc zero)) k = high_two.first_cell
        cells_there (suc (suc (suc zero))) k = high_two.second_cell
        cells_there (suc (suc (suc (suc i)))) k = absurd (omega arith)

-- the same bytes at the same places
placed : (text : Bytes) (a b c d a' b' c' d' n : ℕ) → a ≡ a' → b ≡ b' → c ≡ c' → d ≡ d'
    → FourBytes (get_or text a 0) (get_or text b 0) (get_or text c 0) (get_or text d 0) n
    → FourBytes (get_or text a' 0) (get_or text b' 0) (get_or text c' 0) (get_or text d' 0) n
placed text a b c d a' b' c' d' n ea eb ec ed f = rw (ea, eb, ec, ed) at f

module _ (text : Bytes) (at n : ℕ) (e : EightBytes text at n) where
  low_there : FourBytes (get_or text (at + 2 * 0) 0) (get_or text (at + 2 * 0 + 1) 0) (get_or text (at + 2 * 1) 0)
      (get_or text (at + 2 * 1 + 1) 0) e.low
  low_there =
      placed text at (at + 1) (at + 2) (at + 3) (at + 2 * 0) (at + 2 * 0 + 1) (at + 2 * 1) (at + 2 * 1 + 1) e.low
      (omega arith) (omega arith) (omega arith) (omega arith) e.first

  high_there : FourBytes (get_or text (at + 2 * 2) 0) (get_or text (at + 2 * 2 + 1) 0) (get_or text (at + 2 * 3) 0)
      (get_or text (at + 2 * 3 + 1) 0) e.high
  high_there =
      placed text (at + 4) (at + 5) (at + 6) (at + 7) (at + 2 * 2) (at + 2 * 2 + 1) (at + 2 * 3) (at + 2 * 3 + 1)
      e.high (omega arith) (omega arith) (omega arith) (omega arith) e.second

  -- the four cells of what a number sets
  pub four_stands : at + 8 ≤ length text → (s : ℕ) → n ≡ no_cells + s → SetsCells s → CellsIn text at 4 (set_word s)
  four_stands w s more sets =
      record {
        stand = said_stands text at e.low e.high low_there high_there w (bit (set_word s))
            (sym e.sum ∙ more ∙ ap (λ (m : ℕ). no_cells + m) (set_says s sets));
        beyond = λ q k. bit_above 4 (set_word s) (word_small (bit s 8) (bit s 24) (bit s 40) (bit s 56)) k;
      }

  -- no four cells stand where a number says none
  pub four_off : ((a b c d : Bool) → n ≡ no_cells + four_set a b c d → ⊥) → (ones : ℕ → Bool)
      → CellsStand text at 4 ones → ⊥
  four_off none ones stand =
      none (ones 0) (ones 1) (ones 2) (ones 3)
      (e.sum ∙ stands_said text at e.low e.high low_there high_there ones stand)

-- of cells that stand, so do the first
pub stand_first : {text : Bytes} {at count : ℕ} {ones : ℕ → Bool} (i : ℕ) → i ≤ count → CellsStand text at count ones
    → CellsStand text at i ones
stand_first i h c =
    record {
      within = omega (arith, c.within);
      commas = λ j l. c.commas j (omega arith);
      cells = λ j l. c.cells j (omega arith);
    }

-- and those from one on
pub stand_from : {text : Bytes} {at count : ℕ} {ones : ℕ → Bool} (i more from : ℕ) → i + more ≤ count
    → from ≡ at + 2 * i
    → CellsStand text at count ones → CellsStand text from more (λ j. ones (i + j))
stand_from {text} {at} i more from h e c =
    record {
      within = omega (arith, c.within);
      commas = λ j l. let p : from + 2 * j ≡ at + 2 * (i + j) = omega arith in rw p (c.commas (i + j) (omega arith));
      cells = λ j l. let p : from + 2 * j ≡ at + 2 * (i + j) = omega arith in rw p (c.cells (i + j) (omega arith));
    }

-- n cells behind others
cells_join : (text : Bytes) (at i from n word part more : ℕ) → CellsIn text at i word → CellsIn text from n part
    → from ≡ at + 2 * i
    → ((q : ℕ) → bit more q ≡ (bit word q || bit (part * 2 ^ i) q)) → CellsIn text at (i + n) more
cells_join text at i from n word part more c f e added =
    record {
      stand = record {
        within = omega (arith, f.stand.within);
        commas = λ j l. ⊎_elim (λ k. c.stand.commas j k)
            (λ k. rw (place j k) at (f.stand.commas (j - i) (omega arith))) (below_or_from j i);
        cells = λ j l.
            ⊎_elim (λ k. c.stand.cells j k ∙ ap cell_byte (sym (before j k)))
            (λ k. rw (place j k) at (f.stand.cells (j - i) (omega arith)) ∙ ap cell_byte (sym (behind j k)))
            (below_or_from j i);
      };
      beyond = λ q l. behind q (omega arith) ∙ f.beyond (q - i) (omega arith);
    }
  where
    place : (j : ℕ) → i ≤ j → from + 2 * (j - i) ≡ at + 2 * j
    place j k = omega arith

    before : (j : ℕ) → j < i → bit more j ≡ bit word j
    before j k = added j ∙ rw (bit_shift_left_low part i {p = j} k, or-false (bit word j))

    behind : (j : ℕ) → i ≤ j → bit more j ≡ bit part (j - i)
    behind j k =
        let s : j ≡ i + (j - i) = omega arith in
        added j ∙ rw (c.beyond j k) (ap (bit (part * 2 ^ i)) s ∙ bit_shift_left part i (j - i))

-- shifted within the width they lose nothing
part_shifted : (part n i : ℕ) → part < 2 ^ n → i + n ≤ 64 → part * 2 ^ i % 2 ^ 64 ≡ part * 2 ^ i
part_shifted part n i s h = mod-eq_of_lt (lt_of_lt_of_le (shl_lt n i s) (pow_mono {i = n + i} {j = 64} (omega arith)))

pub cells_behind : (text : Bytes) (at i from n word part : ℕ) → CellsIn text at i word → CellsIn text from n part
    → from ≡ at + 2 * i → part < 2 ^ n → i + n ≤ 64
    → CellsIn text at (i + n) (bit_or word (part * 2 ^ i % 2 ^ 64))
cells_behind text at i from n word part c f e s h =
    rw (part_shifted part n i s h)
    (cells_join text at i from n word part (bit_or word (part * 2 ^ i)) c f e (λ q. bit_of_or word (part * 2 ^ i) q))

-- twice four cells
pub eight_stand : (text : Bytes) (at first second : ℕ) → CellsIn text at 4 first → CellsIn text (at + 8) 4 second
    → CellsIn text at 8 (bit_or first (second * 2 ^ 4))
eight_stand text at first second c f =
    cells_join text at 4 (at + 8) 4 first second (bit_or first (second * 2 ^ 4)) c f (omega arith)
    (λ q. bit_of_or first (second * 2 ^ 4) q)
