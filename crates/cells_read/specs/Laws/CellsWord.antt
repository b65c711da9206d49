-- Reading cells one by one into a word: one more cell adds one position, and a place where no cell stands is no place
-- of any cells. Assumes nothing.
use Rattle.std.specs.Prelude.{ℕ, ◌+◌, ◌*◌, ◌%◌, ◌≤◌, ◌<◌, ◌≡◌, refl, ◌⊎◌, Bool, true, false, ◌&&◌, ◌||◌, eqb, length}
use Rattle.std.specs.Prelude.{get_or}
use Rattle.std.proofs.Common.{not-suc-le-zero, arith, sym, ap, ◌∙◌, ⊎_elim, eqb-true, eq-eqb, ne_eqb}
use Rattle.std.proofs.Math.Bool.{So, or-false}
use Rattle.spec.specs.Text.{Bytes, comma}
use Rattle.bits.specs.Truth.{not_both, and_left, and_right, or_cases}
use Rattle.bits.specs.Bit.{bit}
use Rattle.bits.specs.Laws.Bit.{bit_of_zero}
use Rattle.bits.specs.Laws.Below.{last_or_below}
use Rattle.cells_read.specs.CellsWord.{cell_byte, cell_stands, CellsStand, CellsIn}

-- no cell yet
pub cells_start : (text : Bytes) (at : ℕ) → at ≤ length text → CellsIn text at 0 0
cells_start text at h =
    record {
      stand = record {
        within = omega arith;
        commas = λ i l. absurd (not-suc-le-zero l);
        cells = λ i l. absurd (not-suc-le-zero l);
      };
      beyond = λ q l. bit_of_zero q;
    }

-- a cell's byte is odd where it is `1`
cell_odd : (b : ℕ) → So (eqb b (cell_byte false) || eqb b (cell_byte true)) → b ≡ cell_byte (eqb (b % 2) 1)
cell_odd b p =
    ⊎_elim (λ z. let e = eqb-true b (cell_byte false) z in rw e) (λ o. let e = eqb-true b (cell_byte true) o in rw e)
    (or_cases (eqb b (cell_byte false)) (eqb b (cell_byte true)) p)

-- one cell more
pub cells_more : (text : Bytes) (at i word more : ℕ) → CellsIn text at i word → at + 2 * (i + 1) ≤ length text
    → So (cell_stands (get_or text (at + 2 * i) 0) (get_or text (at + 2 * i + 1) 0))
    → ((q : ℕ) → bit more q ≡ (bit word q || (eqb q i && eqb (get_or text (at + 2 * i + 1) 0 % 2) 1)))
    → CellsIn text at (i + 1) more
cells_more text at i word more c h p added =
    record {
      stand = record {
        within = h;
        commas = λ j l. ⊎_elim (λ e. rw e comma_here) (λ k. c.stand.commas j k) (before j l);
        cells = λ j l. ⊎_elim (λ e. rw e cell_here) (λ k. c.stand.cells j k ∙ ap cell_byte (sym (kept j k)))
            (before j l);
      };
      beyond = λ q l.
          added q ∙ rw (c.beyond q (omega arith), ne_eqb q i (λ e. omega arith));
    }
  where
    there : ℕ
    there = get_or text (at + 2 * i + 1) 0

    before : (j : ℕ) → j < i + 1 → (j ≡ i) ⊎ (j < i)
    before j l = last_or_below (omega arith)

    comma_here : get_or text (at + 2 * i) 0 ≡ comma
    comma_here = eqb-true (get_or text (at + 2 * i) 0) comma (and_left (eqb (get_or text (at + 2 * i) 0) comma)
        (eqb there (cell_byte false) || eqb there (cell_byte true)) p)

    here : bit more i ≡ eqb (there % 2) 1
    here = added i ∙ rw (c.beyond i (omega arith), eq-eqb i i refl)

    cell_here : get_or text (at + 2 * i + 1) 0 ≡ cell_byte (bit more i)
    cell_here =
        cell_odd there (and_right (eqb (get_or text (at + 2 * i) 0) comma) (eqb there (cell_byte false)
        || eqb there (cell_byte true)) p)
        ∙ ap cell_byte (sym here)

    kept : (j : ℕ) → j < i → bit more j ≡ bit word j
    kept j k = added j ∙ rw (ne_eqb j i (λ e. omega arith), or-false (bit word j))

-- each cell is a comma and `0` or `1`
cell_of : (b : Bool) → So (cell_stands comma (cell_byte b))
cell_of true = refl
cell_of false = refl

-- no cells stand where one of them does not
pub cells_off : (text : Bytes) (at i count : ℕ) → i < count
    → cell_stands (get_or text (at + 2 * i) 0) (get_or text (at + 2 * i + 1) 0) ≡ false → (ones : ℕ → Bool)
    → CellsStand text at count ones → ⊥
cells_off text at i count h f ones c =
    not_both (cell_of (ones i)) (rw (c.commas i h, c.cells i h) at f)
