-- Cells of rows of words, for any number of words in a row: two cells share a word and a bit only where user and
-- permission are the same, so setting one bit of one word sets one cell. Assumes nothing.
use Rattle.std.specs.Prelude.{ℕ, suc, ◌*◌, ◌/◌, ◌%◌, ◌≤◌, ◌<◌, ◌≡◌, refl, true, false, ◌&&◌, ◌||◌, List, eqb, length, get_or, set}
use Rattle.std.proofs.Common.{mul-le-mul_right, arith, ap, ⊎_elim, eqb-true, eq-eqb, length-set, get_or-set_same, get_or-set_other}
use Rattle.std.proofs.Math.Bool.{and-true, and-false, or-false}
use Rattle.std.proofs.lemmas.Bool.{eqb-false}
use Rattle.bits.specs.Truth.{passes_or_fails, fails_unless, same_truth, and_left, and_right}
use Rattle.bits.specs.Laws.Below.{below_or_from}
use Rattle.bits.specs.Bit.{bit, word_bits}
use Rattle.cell_rows.specs.Rows.{row_words, row_bits, cell}
use Rattle.cell_rows.specs.CellAdded.{CellAdded, word_of}
use Rattle.cell_rows.specs.Laws.Width.{word_in_row}

-- the words of a user end before those of the next begin
pub word_below : (n u p : ℕ) → u < n → p < row_bits → word_of u p < n * row_words
word_below n u p l h = omega (arith, word_in_row p h, mul-le-mul_right row_words l)

-- cells of one word are cells of one user
pub one_user : (u v p q : ℕ) → p < row_bits → q < row_bits → word_of v q ≡ word_of u p → v ≡ u
one_user u v p q h k e = ⊎_elim under (λ l. ⊎_elim over (λ m. omega arith) (below_or_from u v)) (below_or_from v u)
  where
    under : v < u → v ≡ u
    under l = absurd (omega (arith, word_below u v q l k))

    over : u < v → v ≡ u
    over l = absurd (omega (arith, word_below v u p l h))

-- and, of one word, permissions are the same where their bits are
pub one_bit : (u v p q : ℕ) → p < row_bits → q < row_bits → word_of v q ≡ word_of u p
    → eqb (q % word_bits) (p % word_bits) ≡ eqb q p
one_bit u v p q h k e =
    let user : v ≡ u = one_user u v p q h k e in
    let word : q / word_bits ≡ p / word_bits = omega (arith, rw user at e) in
    same_truth (eqb (q % word_bits) (p % word_bits)) (eqb q p)
    (λ t. eq-eqb q p (let same = eqb-true (q % word_bits) (p % word_bits) t in omega arith))
    (λ t. eq-eqb (q % word_bits) (p % word_bits) (ap (λ (n : ℕ). n % word_bits) (eqb-true q p t)))

-- a word with one bit more, put where a cell's word was, sets that cell and no other
pub cell_set : (words : List ℕ) (u p w : ℕ) → p < row_bits → word_of u p < length words
    → ((x : ℕ) → bit w x ≡ (bit (get_or words (word_of u p) 0) x || eqb x (p % word_bits)))
    → CellAdded words (set words (word_of u p) w) u p true
cell_set words u p w h l with_bit = record { size = length-set words (word_of u p) w; shows = shows; later = later }
  where
    here : (v q : ℕ) → q < row_bits → word_of v q ≡ word_of u p
        → cell (set words (word_of u p) w) v q ≡ (cell words v q || (eqb v u && (eqb q p && true)))
    here v q k e =
        rw (
          e,
          get_or-set_same words (word_of u p) w 0 l,
          with_bit (q % word_bits),
          one_bit u v p q h k e,
          eq-eqb v u (one_user u v p q h k e),
          and-true (eqb q p),
        )

    apart : (v q : ℕ) → (word_of v q ≡ word_of u p → ⊥) → (eqb v u && (eqb q p && true)) ≡ false
    apart v q d =
        fails_unless (eqb v u && (eqb q p && true)) (λ t.
        let user : v ≡ u = eqb-true v u (and_left (eqb v u) (eqb q p && true) t) in
        let permission : q ≡ p = eqb-true q p (and_left (eqb q p) true (and_right (eqb v u) (eqb q p && true) t)) in
        d (rw (user, permission)))

    elsewhere : (v q : ℕ) → (word_of v q ≡ word_of u p → ⊥)
        → cell (set words (word_of u p) w) v q ≡ (cell words v q || (eqb v u && (eqb q p && true)))
    elsewhere v q d = rw (
      get_or-set_other words (word_of u p) (word_of v q) w 0 d,
      apart v q d,
      or-false (cell words v q),
    )

    shows : (v q : ℕ) → q < row_bits → cell (set words (word_of u p) w) v q ≡ (cell words v q
        || (eqb v u && (eqb q p && true)))
    shows v q k =
        ⊎_elim (λ t. here v q k (eqb-true (word_of v q) (word_of u p) t))
        (λ f. elsewhere v q (eqb-false (word_of v q) (word_of u p) f))
        (passes_or_fails (eqb (word_of v q) (word_of u p)))

    later : (i : ℕ) → suc u * row_words ≤ i → get_or (set words (word_of u p) w) i 0 ≡ get_or words i 0
    later i k =
        get_or-set_other words (word_of u p) i w 0 (λ e. let below = word_below (suc u) u p (omega arith) h
        in omega arith)

-- a cell that says no changes nothing
pub cell_kept : (words : List ℕ) (u p : ℕ) → CellAdded words words u p false
cell_kept words u p =
    record {
      size = refl;
      shows = λ v q h. rw (and-false (eqb q p), and-false (eqb v u), or-false (cell words v q));
      later = λ i h. refl;
    }
