-- The words of one row: a set of permissions.
use Rattle.std.specs.Prelude.{ℕ, zero, suc, ◌+◌, ◌*◌, ◌/◌, ◌%◌, ◌≤◌, ◌<◌, ◌≡◌, refl, Bool, false, not, ◌&&◌, ◌||◌, List, eqb, length, get_or, take}
use Rattle.std.specs.List.{list_any}
use Rattle.std.proofs.Common.{arith, ap, ◌∙◌, add-one, eqb-true}
use Rattle.std.proofs.Math.Bool.{or_comm}
use Rattle.std.proofs.lemmas.Bool.{not-false}
use Rattle.std.proofs.lemmas.List.Folds.{list_any_more}
use Rattle.std.proofs.Math.Arith.{digits_div, digits_mod}
use Rattle.std.specs.Int.Bits.{bit_and}
use Rattle.bits.specs.Counting.{some_below}
use Rattle.bits.specs.Laws.Below.{none_below_elim}
use Rattle.bits.specs.Bit.{bit, word_bits}
use Rattle.bits.specs.Laws.Bit.{bit_of_and, bit_of_zero}
use Rattle.cell_rows.specs.Rows.{row_words, row_bits, cell}
use Rattle.cell_rows.specs.CellPlaces.{marked}
use Rattle.cell_rows.specs.Laws.Width.{word_in_row, cell_word, cell_position}
use Rattle.fit.specs.Laws.FitWord.{marked_in_word}

-- the cell of user u and permission p, by its number
pub cell_by_user : (words : List ℕ) (u p : ℕ) → marked words (u * row_bits + p) ≡ cell words u p
cell_by_user words u p = rw (cell_word u p, cell_position u p)

-- and by its word and position
pub cell_in_word : (words : List ℕ) (u k q : ℕ) → q < word_bits → cell words u (k * word_bits + q) ≡ bit
    (get_or words (u * row_words + k) 0) q
cell_in_word words u k q l = rw (digits_div k l, digits_mod k l)

-- where no word has a position, the row has no permission
pub none_in_row : (row : List ℕ) → some_below row_words (λ k. not (eqb (get_or row k 0) 0)) ≡ false → (p : ℕ)
    → p < row_bits → marked row p ≡ false
none_in_row row none p l =
    ap (λ w. bit w (p % word_bits)) (eqb-true (get_or row (p / word_bits) 0) 0
    (not-false (eqb (get_or row (p / word_bits) 0) 0)
    (none_below_elim row_words (λ k. not (eqb (get_or row k 0) 0)) none (word_in_row p l))))
    ∙ bit_of_zero (p % word_bits)

-- the permissions of word k of a row that user v holds
pub shared_word : (rows row : List ℕ) (v k q : ℕ) → q < word_bits
    → bit (bit_and (get_or row k 0) (get_or rows (v * row_words + k) 0)) q ≡ (marked row (k * word_bits + q)
    && cell rows v (k * word_bits + q))
shared_word rows row v k q l =
    bit_of_and (get_or row k 0) (get_or rows (v * row_words + k) 0) q
    ∙ rw (marked_in_word row k q l, cell_in_word rows v k q l)

-- what a list has among its first elements, by their places
pub any_below : (p : ℕ → Bool) (xs : List ℕ) (n : ℕ) → n ≤ length xs
    → list_any p (take n xs) ≡ some_below n (λ k. p (get_or xs k 0))
unfolding some_below
any_below p xs zero l = refl
any_below p xs (suc n) l =
    rw (add-one n) at (list_any_more p xs n 0 (omega arith))
    ∙ or_comm (list_any p (take n xs)) (p (get_or xs n 0))
    ∙ ap (λ b. p (get_or xs n 0) || b) (any_below p xs n (omega arith))
