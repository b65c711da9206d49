-- How many cells of a row of words are set, for any number of words: they are counted word by word, and cells past a
-- width behind which none is set add nothing. Assumes nothing.
use Rattle.std.specs.Prelude.{ℕ, ◌+◌, ◌-◌, ◌*◌, ◌≤◌, ◌<◌, ◌≡◌, Bool, false, List, get_or}
use Rattle.std.proofs.Common.{arith, ap, ◌∙◌}
use Rattle.std.proofs.Math.Arith.{digits_div, digits_mod}
use Rattle.bits.specs.Counting.{count_below}
use Rattle.bits.specs.Laws.Count.{count_below_add, count_below_ext, count_below_none_intro}
use Rattle.bits.specs.Bit.{bit, word_bits}
use Rattle.cell_rows.specs.Rows.{row_words, cell}

-- one word more
pub count_word : (words : List ℕ) (row k : ℕ)
    → count_below ((k + 1) * word_bits) (cell words row)
    ≡ count_below (k * word_bits) (cell words row) + count_below word_bits (bit (get_or words (row * row_words + k) 0))
count_word words row k =
    let more : (k + 1) * word_bits ≡ k * word_bits + word_bits = omega arith in
    rw (
      more,
      count_below_add (k * word_bits) word_bits (cell words row),
      count_below_ext word_bits (λ q. cell words row (k * word_bits + q)) (bit (get_or words (row * row_words + k) 0))
          (λ q l. rw (digits_div k l, digits_mod k l)),
    )

-- no cell past a width
pub count_narrow : (width n : ℕ) (f : ℕ → Bool) → width ≤ n → ((p : ℕ) → width ≤ p → p < n → f p ≡ false)
    → count_below n f ≡ count_below width f
count_narrow width n f h narrow =
    let all : n ≡ width + (n - width) = omega arith in
    let none : count_below (n - width) (λ i. f (width + i)) ≡ 0 =
    count_below_none_intro (n - width) (λ i. f (width + i)) (λ i l. narrow (width + i) (omega arith) (omega arith)) in
    ap (λ (m : ℕ). count_below m f) all ∙ count_below_add width (n - width) f
    ∙ omega (arith, none)
