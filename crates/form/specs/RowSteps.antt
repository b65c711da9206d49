-- Reading lines of names and cells, one after the other, into the rows of as many words. Assumes nothing.
use Rattle.std.specs.Prelude.{ℕ, ◌+◌, ◌*◌, ◌/◌, ◌%◌, ◌≤◌, ◌<◌, ◌≡◌, false, List, ◌++◌, length, replicate}
use Rattle.std.proofs.Common.{arith, sym, ap, ◌∙◌, ⊎_elim}
use Rattle.spec.specs.Text.{Bytes}
use Rattle.bits.specs.Laws.Below.{below_or_from}
use Rattle.lists.specs.Listed.{listed_same}
use Rattle.bits.specs.Bit.{word_bits}
use Rattle.bits.specs.Laws.Bit.{bit_of_zero}
use Rattle.cell_rows.specs.Rows.{row_words, row_bits, cell}
use Rattle.cells.specs.Laws.MadeCells.{getD_zeros}
use Rattle.text.specs.Line.{line_end}
use Rattle.cell_text.specs.CellsText.{cell_field}
use Rattle.cells_read.specs.RowGrown.{Blank}
use Rattle.steps.specs.Stands.{Stands}
use Rattle.steps.specs.Laws.Stands.{stands_nothing, stands_then}
use Rattle.steps.specs.Laws.Step.{stands_more}
use Rattle.form.specs.Pieces.{named_text, named_texts}
use Rattle.form.specs.LineSteps.{LineRead}

-- no row has a cell set
pub record AllBlank (words : List ℕ) : Type 0 where
  pub rows : (row : ℕ) → Blank words row

pub zeros_blank : (n : ℕ) → AllBlank (replicate n 0)
zeros_blank n =
    record {
      rows = λ row. record {
        none = λ p l. rw (getD_zeros n (row * row_words + p / word_bits)) (bit_of_zero (p % word_bits));
      };
    }

-- the lines below i have been read: their rows have no cell beyond, and no other row has any
pub record LinesBelow (text : Bytes) (at : ℕ) (name : ℕ → Bytes) (width : ℕ) (words : List ℕ) (i next : ℕ) : Type 0
  where
    pub reads : Stands text at (named_texts name width (cell words) i) next
    pub blank : (row : ℕ) → i ≤ row → Blank words row
    pub beyond : (row p : ℕ) → row < i → width ≤ p → p < row_bits → cell words row p ≡ false

pub lines_start : {text : Bytes} {at : ℕ} (name : ℕ → Bytes) (width : ℕ) {words : List ℕ} → at ≤ length text
    → AllBlank words
    → LinesBelow text at name width words 0 at
lines_start {text} {at} name width h b =
    record { reads = stands_nothing text at h; blank = λ row l. b.rows row; beyond = λ row p l. absurd (omega arith) }

-- the same names said by another function
pub lines_renamed : {text : Bytes} {at width i next : ℕ} {words : List ℕ} (f g : ℕ → Bytes)
    → ((row : ℕ) → row < i → f row ≡ g row)
    → LinesBelow text at f width words i next → LinesBelow text at g width words i next
lines_renamed {width = width} {i} {words = words} f g same b =
    record { reads = rw lines at b.reads; blank = b.blank; beyond = b.beyond }
  where
    lines : named_texts f width (cell words) i ≡ named_texts g width (cell words) i
    lines =
        listed_same i (λ row. named_text (f row) width (cell words row)) (λ row. named_text (g row) width
        (cell words row)) (λ row h. ap (λ (name : Bytes). named_text name width (cell words row)) (same row h))

-- with the next name there and its cells behind it, one line more has been read
pub lines_more : {text : Bytes} {at : ℕ} {name : ℕ → Bytes} {width i next cells last : ℕ} {words after : List ℕ}
    → width ≤ row_bits
    → LinesBelow text at name width words i next → Stands text next (name i) cells
    → LineRead text cells i width words after last
    → LinesBelow text at name width after (i + 1) last
lines_more {text} {at} {name} {width} {i} {next} {cells} {last} {words} {after} h b named l =
    record {
      reads = stands_more i (λ row. named_text (name row) width (cell after row)) (rw same at b.reads)
          (stands_then named l.reads);
      blank = λ row k. record { none = λ p m. kept row p (omega arith) m ∙ (b.blank row (omega arith)).none p m };
      beyond = λ row p k m n. ⊎_elim
          (λ (below : row < i). kept row p (omega arith) n ∙ b.beyond row p below m n)
          (λ (from : i ≤ row). (let here : row ≡ i = omega arith in rw here (l.grown.beyond p m n)))
          (below_or_from row i);
    }
  where
    kept : (row p : ℕ) → (row ≡ i → ⊥) → p < row_bits → cell after row p ≡ cell words row p
    kept row p other k = l.grown.others row p other k

    same : named_texts name width (cell words) i ≡ named_texts name width (cell after) i
    same =
        listed_same i (λ row. named_text (name row) width (cell words row)) (λ row. named_text (name row) width
        (cell after row)) (λ row k.
        ap (λ (cells : Bytes). name row ++ (cells ++ line_end))
        (listed_same width (λ p. cell_field (cell words row p)) (λ p. cell_field (cell after row p))
        (λ p m. ap cell_field (sym (kept row p (omega arith) (omega arith))))))
