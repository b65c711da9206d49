-- Reading the cells of a line into a row, a word of them at a time: the cells read stand in the text one after the
-- other, and where some of them do not stand, no such cells do.
use Rattle.std.specs.Prelude.{ℕ, ◌+◌, ◌-◌, ◌*◌, ◌≤◌, ◌<◌, ◌≡◌, refl, Bool, List, length, get_or, Option}
use Rattle.std.specs.Prelude.{Some, None}
use Rattle.std.proofs.Common.{arith, sym, ap, ◌∙◌, ⊎_elim}
use Rattle.spec.specs.Text.{Bytes, comma}
use Rattle.bits.specs.Laws.Below.{below_or_from}
use Rattle.bits.specs.Bit.{word_bits}
use Rattle.cell_rows.specs.Rows.{row_words, cell}
use Rattle.cells_read.specs.CellsWord.{cell_byte, cells_text, CellsStand, CellsIn}
use Rattle.cells_read.specs.Laws.CellsStanding.{stands_cells, cells_stand}
use Rattle.cells_read.specs.Laws.FourRead.{stand_from}
use Rattle.cell_text.specs.CellsText.{cell_field}
use Rattle.cell_text.specs.Laws.CellsWritten.{cell_field_length}
use Rattle.steps.specs.Laws.Aligned.{Aligned, aligned_length, aligned_listed}
use Rattle.steps.specs.Stands.{Stands}
use Rattle.steps.specs.Steps.{Misses}
use Rattle.cells_read.specs.RowGrown.{Blank, OthersKept, Grown, grown_none, WordStored, cells_kept, cells_read}
use Rattle.cells_read.specs.RowGrown.{grown_more}

-- cells were read into a row
pub record RowRead (text : Bytes) (at row count : ℕ) (words after : List ℕ) (next : ℕ) : Type 0 where
  pub reads : Stands text at (cells_text count (cell after row)) next
  pub grown : Grown words after row count

-- a step over so many cells; where they do not stand, only their row has changed
abbrev pub CellsRead : Bytes → ℕ → ℕ → ℕ → List ℕ → List ℕ → Option ℕ → Type 0
CellsRead text at row count words after (Some next) = RowRead text at row count words after next
CellsRead text at row count words after None =
    ((cells : ℕ → Bool) → Misses text at (cells_text count cells)) × OthersKept words after row

-- any two cells take as many bytes
cells_aligned : (a b : Bool) → Aligned (cell_field a) (cell_field b)
cells_aligned a b = aligned_length (cell_field a) (cell_field b) (cell_field_length a ∙ sym (cell_field_length b))

pub cells_text_aligned : (count : ℕ) (a b : ℕ → Bool) → Aligned (cells_text count a) (cells_text count b)
cells_text_aligned count a b =
    aligned_listed count (λ i. cell_field (a i)) (λ i. cell_field (b i)) (λ i h. cells_aligned (a i) (b i))

-- ---- cells that stand one after the other

-- those before cell i, and those from it on
stand_more : {text : Bytes} {at i n : ℕ} {f g : ℕ → Bool} (all : ℕ → Bool) → CellsStand text at i f
    → CellsStand text (at + 2 * i) n g
    → ((j : ℕ) → j < i → all j ≡ f j) → ((j : ℕ) → j < n → all (i + j) ≡ g j) → CellsStand text at (i + n) all
stand_more {text} {at} {i} {n} {f} {g} all c d kept more =
    record {
      within = omega (arith, d.within);
      commas = λ j l. ⊎_elim (λ (h : j < i). c.commas j h) (λ (h : i ≤ j). later_comma j h l) (below_or_from j i);
      cells = λ j l. ⊎_elim (λ (h : j < i). c.cells j h ∙ ap cell_byte (sym (kept j h)))
          (λ (h : i ≤ j). later_cell j h l) (below_or_from j i);
    }
  where
    later_comma : (j : ℕ) → i ≤ j → j < i + n → get_or text (at + 2 * j) 0 ≡ comma
    later_comma j h l =
        let place : at + 2 * j ≡ at + 2 * i + 2 * (j - i) = omega arith in
        rw place (d.commas (j - i) (omega arith))

    later_cell : (j : ℕ) → i ≤ j → j < i + n → get_or text (at + 2 * j + 1) 0 ≡ cell_byte (all j)
    later_cell j h l =
        let place : at + 2 * j + 1 ≡ at + 2 * i + 2 * (j - i) + 1 = omega arith in
        let number : i + (j - i) ≡ j = omega arith in
        rw place (d.cells (j - i) (omega arith) ∙ ap cell_byte (sym (rw number at (more (j - i) (omega arith)))))

-- ---- word after word

-- some cells of a row have been read
pub record Reading (text : Bytes) (at row i : ℕ) (words mid : List ℕ) : Type 0 where
  pub stand : CellsStand text at i (cell mid row)
  pub grown : Grown words mid row i

pub reading_starts : {text : Bytes} {at row : ℕ} {words : List ℕ} → at ≤ length text → Blank words row
    → Reading text at row 0 words words
reading_starts {text} {at} h b =
    record {
      stand = record {
        within = omega arith;
        commas = λ i l. absurd (omega arith);
        cells = λ i l. absurd
            (omega arith);
      };
      grown = grown_none b;
    }

pub reading_more : {text : Bytes} {at row i n k w : ℕ} {words mid after : List ℕ} → Reading text at row i words mid
    → WordStored mid after row k w
    → k < row_words → i ≤ k * word_bits → (0 < n → i ≡ k * word_bits) → n ≤ word_bits → CellsIn text (at + 2 * i) n w
    → Reading text at row (i + n) words after
reading_more {text} {at} {row} {i} {n} {k} {w} {words} {mid} {after} r put inside start same few c =
    record {
      stand = stand_more (cell after row) r.stand c.stand (cells_kept r.grown put inside start same few)
          (cells_read r.grown put inside start same few);
      grown = grown_more r.grown put inside start same few c.beyond;
    }

pub reading_ends : {text : Bytes} {at row count : ℕ} {words mid : List ℕ} → Reading text at row count words mid
    → RowRead text at row count words mid (at + 2 * count)
reading_ends {text} {at} {row} {count} {words} {mid} r =
    record { reads = stands_cells text at count (cell mid row) r.stand; grown = r.grown }

pub reading_off : {text : Bytes} {at : ℕ} (i n count : ℕ) → at ≤ length text → i + n ≤ count
    → ((ones : ℕ → Bool) → CellsStand text (at + 2 * i) n ones → ⊥) → (cells : ℕ → Bool)
    → Misses text at (cells_text count cells)
reading_off {text} {at} i n count h few none cells =
    record {
      misses = λ rest e. none (λ j. cells (i + j))
          (stand_from i n (at + 2 * i) few refl (cells_stand text at count cells rest h e));
    }
