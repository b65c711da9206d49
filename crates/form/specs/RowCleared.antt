-- A row of words is cleared: then it has no cell set, and every other row is as it was.
use Rattle.std.specs.Prelude.{ℕ, ◌+◌, ◌-◌, ◌*◌, ◌/◌, ◌%◌, ◌≤◌, ◌<◌, ◌≡◌, ◌≢◌, List, length, get_or, replicate}
use Rattle.std.proofs.Common.{arith, sym, ap, ◌∙◌, ⊎_elim}
use Rattle.std.proofs.lemmas.List.{places, get_or-replicate}
use borrow.Rule.Slice.PartMut.{put_mid}
use Rattle.std.proofs.Math.Arith.{digits_div}
use Rattle.bits.specs.Laws.Below.{below_or_from}
use Rattle.bits.specs.Laws.Bit.{bit_of_zero}
use Rattle.bits.specs.Bit.{bit, word_bits}
use Rattle.cell_rows.specs.Rows.{row_words}
use Rattle.cell_rows.specs.Laws.Width.{word_in_row}
use Rattle.cells_read.specs.RowGrown.{Blank, OthersKept}

-- a row has no cell set, and every other row is as it was
pub record RowCleared (words after : List ℕ) (row : ℕ) : Type 0 where
  pub blank : Blank after row
  pub others : OthersKept words after row

pub cleared_after : {words mid after : List ℕ} {row : ℕ} → OthersKept words mid row → RowCleared mid after row
    → RowCleared words after row
cleared_after kept cleared =
    record { blank = cleared.blank; others = λ u p d l. cleared.others u p d l ∙ kept u p d l }

-- the words with those of a row all 0
abbrev zeroed : List ℕ → ℕ → List ℕ
zeroed words row = put_mid (row * row_words) row_words words (replicate row_words 0)

module _ (words : List ℕ) (row : ℕ) (room : (row + 1) * row_words ≤ length words) where
  word_of_row : (k : ℕ) → k < row_words → get_or (zeroed words row) (row * row_words + k) 0 ≡ 0
  word_of_row k l = let zero = get_or-replicate {A = ℕ} row_words k 0 0 l in grind (arith, places)

  other_word : (i : ℕ) → ((k : ℕ) → k < row_words → i ≢ row * row_words + k)
      → get_or (zeroed words row) i 0 ≡ get_or words i 0
  other_word i apart =
      ⊎_elim (λ (b : i < row * row_words). grind (arith, places))
      (λ (h : row * row_words ≤ i). ⊎_elim
      (λ (b : i < row * row_words + row_words). absurd (apart (i - row * row_words) (omega arith) (omega arith)))
      (λ (past : row * row_words + row_words ≤ i). grind (arith, places))
      (below_or_from i (row * row_words + row_words)))
      (below_or_from i (row * row_words))

  pub row_cleared : {k n : ℕ} {now : List ℕ} → k ≡ row_words → n ≡ row_words → now ≡ replicate n 0
      → RowCleared words (put_mid (row * row_words) k words now) row
  row_cleared size total same =
      rw (size, same, total) (record {
        blank = record {
          none = λ p l. ap (λ (w : ℕ). bit w (p % word_bits)) (word_of_row (p / word_bits) (word_in_row p l))
              ∙ bit_of_zero (p % word_bits);
        };
        others = λ u p d l. ap (λ (w : ℕ). bit w (p % word_bits)) (other_word (u * row_words + p / word_bits) (λ k m e.
            d (sym (digits_div u (word_in_row p l)) ∙ ap (λ (n : ℕ). n / row_words) e ∙ digits_div row m)));
      })
