-- Setting one position of some words: its word gets the bit, and the other words stay. So one position more is set, and
-- in rows one cell more.
use Rattle.std.specs.Prelude.{ℕ, ◌+◌, ◌*◌, ◌/◌, ◌%◌, ◌<◌, ◌≡◌, true, false, ◌&&◌, ◌||◌, List, eqb, length, get_or, set}
use Rattle.std.proofs.Common.{suc-mul, arith, sym, ap, ◌∙◌, ⊎_elim, eqb-true, eq-eqb, ne_eqb, length-set, get_or-set_same, get_or-set_other}
use Rattle.std.proofs.Math.Bool.{So, and-true, or-false}
use Rattle.std.proofs.lemmas.Bool.{eqb-false}
use Rattle.std.proofs.Math.Arith.{digits_div, digits_mod}
use Rattle.bits.specs.Truth.{passes_or_fails, same_truth, and_intro, and_left, and_right}
use Rattle.bits.specs.Bit.{bit, word_bits}
use Rattle.cell_rows.specs.Rows.{row_words, row_bits, cell}
use Rattle.cell_rows.specs.CellPlaces.{marked}
use Rattle.cell_rows.specs.Laws.Width.{cell_word, cell_position, word_in_row}
use Rattle.cell_rows.specs.CellAdded.{PositionSet, CellAdded}

put_in : (words : List ℕ) (n w : ℕ) → n / word_bits < length words
    → ((q : ℕ) → bit w q ≡ (bit (get_or words (n / word_bits) 0) q || eqb q (n % word_bits)))
    → (m : ℕ) → marked (set words (n / word_bits) w) m ≡ (marked words m || eqb m n)
put_in words n w inside says m = ⊎_elim here elsewhere (passes_or_fails (eqb (m / word_bits) (n / word_bits)))
  where
    here : So (eqb (m / word_bits) (n / word_bits)) → marked (set words (n / word_bits) w) m ≡ (marked words m
        || eqb m n)
    here e =
        let word : m / word_bits ≡ n / word_bits = eqb-true (m / word_bits) (n / word_bits) e in
        rw (word, get_or-set_same words (n / word_bits) w 0 inside)
        (says (m % word_bits) ∙ ap (λ b. bit (get_or words (n / word_bits) 0) (m % word_bits) || b)
        (same_position word))
      where
        same_position : m / word_bits ≡ n / word_bits → eqb (m % word_bits) (n % word_bits) ≡ eqb m n
        same_position word =
            same_truth (eqb (m % word_bits) (n % word_bits)) (eqb m n)
            (λ p. eq-eqb m n (omega (arith, eqb-true (m % word_bits) (n % word_bits) p)))
            (λ p. eq-eqb (m % word_bits) (n % word_bits) (ap (λ k. k % word_bits) (eqb-true m n p)))

    elsewhere : eqb (m / word_bits) (n / word_bits) ≡ false → marked (set words (n / word_bits) w) m ≡ (marked words m
        || eqb m n)
    elsewhere f =
        let other = eqb-false (m / word_bits) (n / word_bits) f in
        rw (
          get_or-set_other words (n / word_bits) (m / word_bits) w 0 other,
          ne_eqb m n (λ e. other (ap (λ k. k / word_bits) e)),
        )
        (sym (or-false (marked words m)))

pub position_set : (words : List ℕ) (n w : ℕ) → n / word_bits < length words
    → ((q : ℕ) → bit w q ≡ (bit (get_or words (n / word_bits) 0) q || eqb q (n % word_bits)))
    → PositionSet words (set words (n / word_bits) w) n
position_set words n w inside says = record {
  size = length-set words (n / word_bits) w;
  shows = put_in words n w inside says;
  others = λ i d. get_or-set_other words (n / word_bits) i w 0 d;
}

-- ---- in rows

same_cell : (u v p q : ℕ) → p < row_bits → q < row_bits
    → eqb (v * row_bits + q) (u * row_bits + p) ≡ (eqb v u && (eqb q p && true))
same_cell u v p q h k =
    rw (and-true (eqb q p)) (same_truth (eqb (v * row_bits + q) (u * row_bits + p)) (eqb v u && eqb q p)
    (λ t. let same = eqb-true (v * row_bits + q) (u * row_bits + p) t in
    and_intro (eqb v u) (eqb q p)
    (eq-eqb v u (sym (digits_div v k) ∙ ap (λ n. n / row_bits) same ∙ digits_div u h))
    (eq-eqb q p (sym (digits_mod v k) ∙ ap (λ n. n % row_bits) same ∙ digits_mod u h)))
    (λ t. eq-eqb (v * row_bits + q) (u * row_bits + p)
    (ap (λ n. n * row_bits + q) (eqb-true v u (and_left (eqb v u) (eqb q p) t))
    ∙ ap (λ n. u * row_bits + n) (eqb-true q p (and_right (eqb v u) (eqb q p) t)))))

cell_at : (words : List ℕ) (v q : ℕ) → cell words v q ≡ marked words (v * row_bits + q)
cell_at words v q = rw (cell_word v q, cell_position v q)

-- the position of a cell
pub cell_added : (words after : List ℕ) (u p : ℕ) → p < row_bits → PositionSet words after (u * row_bits + p)
    → CellAdded words after u p true
cell_added words after u p h put = record {
  size = put.size;
  shows = λ v q k. cell_at after v q ∙ put.shows (v * row_bits + q)
      ∙ rw (same_cell u v p q h k, cell_at words v q);
  later = λ i k. put.others i (λ e. omega (arith, cell_word u p, word_in_row p h, suc-mul u row_words));
}
