-- A row is put in the place of another: the words of that row are the new ones, and all others stay.
use Rattle.std.specs.Prelude.{ℕ, ◌+◌, ◌-◌, ◌*◌, ◌/◌, ◌%◌, ◌≤◌, ◌<◌, ◌≡◌, ◌≢◌, false, cond, List, eqb, length, get_or}
use Rattle.std.proofs.Common.{arith, sym, ap, ◌∙◌, ⊎_elim, eqb-true}
use Rattle.std.proofs.lemmas.List.{places}
use borrow.Rule.Slice.PartMut.{put_mid}
use Rattle.std.proofs.Math.Bool.{So}
use Rattle.std.proofs.lemmas.Bool.{eqb-false}
use Rattle.std.proofs.Math.Arith.{digits_div}
use Rattle.bits.specs.Bit.{bit, word_bits}
use Rattle.bits.specs.Truth.{passes_or_fails}
use Rattle.bits.specs.Laws.Below.{below_or_from}
use Rattle.cell_rows.specs.Rows.{row_words, row_bits, cell}
use Rattle.cell_rows.specs.CellPlaces.{marked}
use Rattle.cell_rows.specs.Laws.Width.{word_in_row}
use Rattle.admitting.specs.RowPut.{RowPut}

-- the words with a row of them written over
abbrev written : List ℕ → ℕ → List ℕ → List ℕ
written words row new = put_mid (row * row_words) row_words words new

module _ (words new : List ℕ) (row : ℕ) (room : (row + 1) * row_words ≤ length words) (whole : length new ≡ row_words)
  where
    word_of_row : (k : ℕ) → k < row_words → get_or (written words row new) (row * row_words + k) 0 ≡ get_or new k 0
    word_of_row k l = grind (arith, places)

    other_word : (i : ℕ) → ((k : ℕ) → k < row_words → i ≢ row * row_words + k) → get_or (written words row new) i 0 ≡ get_or words i 0
    other_word i apart =
        ⊎_elim (λ (b : i < row * row_words). grind (arith, places))
        (λ (h : row * row_words ≤ i). ⊎_elim
        (λ (b : i < row * row_words + row_words). absurd (apart (i - row * row_words) (omega arith) (omega arith)))
        (λ (past : row * row_words + row_words ≤ i). grind (arith, places))
        (below_or_from i (row * row_words + row_words)))
        (below_or_from i (row * row_words))

    pub row_put : {k : ℕ} {now : List ℕ} → k ≡ row_words → now ≡ new
        → RowPut words (put_mid (row * row_words) k words now) row new
    row_put size same =
        rw (size, same) (record { shows = λ u p l. ⊎_elim (here u p l) (other u p l) (passes_or_fails (eqb u row)) })
      where
        here : (u p : ℕ) → p < row_bits → So (eqb u row)
            → cell (written words row new) u p ≡ cond (eqb u row) (marked new p) (cell words u p)
        here u p l e =
            rw (e, eqb-true u row e)
            (ap (λ (w : ℕ). bit w (p % word_bits)) (word_of_row (p / word_bits) (word_in_row p l)))

        other : (u p : ℕ) → p < row_bits → eqb u row ≡ false
            → cell (written words row new) u p ≡ cond (eqb u row) (marked new p) (cell words u p)
        other u p l f =
            rw f (ap (λ (w : ℕ). bit w (p % word_bits)) (other_word (u * row_words + p / word_bits) (λ k m e.
            eqb-false u row f (sym (digits_div u (word_in_row p l)) ∙ ap (λ (n : ℕ). n / row_words) e
            ∙ digits_div row m))))
