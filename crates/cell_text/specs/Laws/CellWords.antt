-- The cells of a row are those of its words, word after word: word k has the cells behind those of the words before
-- it.
use Rattle.std.specs.Prelude.{ℕ, zero, suc, ◌+◌, ◌*◌, ◌≤◌, ◌<◌, ◌≡◌, List, ◌++◌, get_or}
use Rattle.std.proofs.Common.{add-zero, sym, ◌∙◌, append_assoc, append-nil}
use native.Mathlib.Omega.{arith}
use Rattle.std.proofs.Math.Path.{refl}
use Rattle.std.proofs.Math.Arith.{digits_div, digits_mod}
use Rattle.spec.specs.Text.{Bytes}
use Rattle.bits.specs.Bit.{word_bits}
use Rattle.lists.specs.Listed.{listed, listed_same, listed_suc}
use Rattle.cell_rows.specs.Rows.{row_words, row_bits, cell}
use Rattle.cell_rows.specs.RowWords.{in_word, before_word}
use Rattle.cell_text.specs.CellsText.{cell_field, word_text, cells_text}

-- parts behind the first so many
listed_add : (a b : ℕ) (part : ℕ → Bytes) → listed (a + b) part ≡ listed a part ++ listed b (λ i. part (a + i))
listed_add a zero part = rw (add-zero a) (sym (append-nil (listed a part)))
listed_add a (suc b) part =
    let e : a + suc b ≡ suc (a + b) = omega arith in
    rw e (listed_suc (a + b) part ∙ rw (listed_add a b part, listed_suc b (λ i. part (a + i)))
    (append_assoc (listed a part) (listed b (λ i. part (a + i))) (part (a + b))))

module _ (words : List ℕ) (row count : ℕ) where
  -- what word k says of the first so many cells of the row
  abbrev pub word_part : ℕ → Bytes
  word_part k = word_text (get_or words (row * row_words + k) 0) (in_word count k)

  -- its cells stand behind those of the words before it
  word_cells : (k : ℕ)
      → word_part k ≡ listed (in_word count k) (λ i. cell_field (cell words row (before_word count k + i)))
  word_cells k =
      listed_same (in_word count k) _ _ (λ i l.
      let start : before_word count k ≡ k * word_bits = omega arith in
      let inside : i < word_bits = omega arith in
      rw (start, digits_div k inside, digits_mod k inside) refl)

  words_said : (k : ℕ) → listed k word_part ≡ cells_text words row (before_word count k)
  words_said zero = let none : before_word count 0 ≡ 0 = omega arith in rw none refl
  words_said (suc k) =
      let more : before_word count (suc k) ≡ before_word count k + in_word count k = omega arith in
      listed_suc k word_part
      ∙ rw (words_said k, word_cells k, more)
      (sym (listed_add (before_word count k) (in_word count k) (λ i. cell_field (cell words row i))))

  -- all words say all cells
  pub row_said : count ≤ row_bits → listed row_words word_part ≡ cells_text words row count
  unfolding row_bits
  row_said l = let all : before_word count row_words ≡ count = omega arith in words_said row_words ∙ rw all refl
