-- The rows of the classes word by word: what a user lacks is added to a class by the complement of each word of the
-- user's row.
use Prim.Native.Nat.{ℕ, ◌+◌, ◌-◌, ◌*◌, ◌/◌, ◌%◌, ◌^◌, ◌<◌}
use Rattle.std.proofs.Common.{mod-lt, arith, ap, ◌∙◌, eqb-true, eq-eqb, ltb-true, lt-ltb, le-ltb, lit<, get_or-set_same, get_or-set_other}
use Rattle.std.specs.Prelude.{◌≡◌, refl, ◌≢◌, ◌&&◌, ◌||◌, List, eqb, ltb, length, get_or, set}
use Rattle.std.proofs.Math.Logic.{⊎_elim}
use Rattle.std.proofs.Math.Bool.{So, not, and-false, or-false}
use Rattle.std.proofs.lemmas.Bool.{eqb-false}
use Rattle.std.specs.Int.Bits.{bit_or}
use Rattle.std.proofs.Math.ListN.{length-set}
use Rattle.bits.specs.Truth.{passes_or_fails, same_truth}
use Rattle.bits.specs.Bit.{bit, word_bits}
use Rattle.bits.specs.Laws.Bit.{bit_of_or, bit_not}
use Rattle.cell_rows.specs.Rows.{row_words, row_bits, cell}
use Rattle.cell_rows.specs.CellAdded.{word_of}
use Rattle.cells.specs.Laws.CellAdded.{one_user}

-- what user u lacks of the permissions below n is added to class c
pub record LacksAdded (rows words after : List ℕ) (c u n : ℕ) : Type 0 where
  pub size : length after ≡ length words
  pub shows : (v q : ℕ) → q < row_bits → cell after v q ≡ (cell words v q
      || (eqb v c && (ltb q n && not (cell rows u q))))

-- at first nothing is added
pub no_lacks_added : (rows words : List ℕ) (c u : ℕ) → LacksAdded rows words words c u 0
no_lacks_added rows words c u = record {
  size = refl;
  shows = λ v q k. rw (le-ltb q 0 (omega arith), and-false (eqb v c), or-false (cell words v q));
}

-- in the end all that the user lacks
pub all_lacks_added : {rows words after : List ℕ} {c u : ℕ} → LacksAdded rows words after c u row_bits
    → (v q : ℕ) → q < row_bits → cell after v q ≡ (cell words v q || (eqb v c && not (cell rows u q)))
all_lacks_added added v q k = rw (lt-ltb q row_bits k) at (added.shows v q k)

module _ {rows words after : List ℕ} {c u j : ℕ} (added : LacksAdded rows words after c u (j * word_bits))
    (inside : j < row_words)
    (room : c * row_words + j < length after) (fits : get_or rows (u * row_words + j) 0 < 2 ^ word_bits) where
  -- the next word, with the complement of the user's
  abbrev next_word : ℕ
  next_word = bit_or (get_or after (c * row_words + j) 0) (2 ^ word_bits - 1 - get_or rows (u * row_words + j) 0)

  next_bit : (x : ℕ) → x < word_bits
      → bit next_word x ≡ (bit (get_or after (c * row_words + j) 0) x
      || not (bit (get_or rows (u * row_words + j) 0) x))
  next_bit x l =
      rw (
        bit_of_or (get_or after (c * row_words + j) 0) (2 ^ word_bits - 1 - get_or rows (u * row_words + j) 0) x,
        bit_not word_bits (get_or rows (u * row_words + j) 0) fits l,
      )

  pub lacks_word_added : LacksAdded rows words (set after (c * row_words + j) next_word) c u ((j + 1) * word_bits)
  unfolding row_bits
  lacks_word_added = record {
    size = length-set after (c * row_words + j) next_word ∙ added.size;
    shows = λ v q k.
        ⊎_elim (λ t. here v q k (eqb-true (word_of v q) (c * row_words + j) t))
        (λ f. elsewhere v q k (eqb-false (word_of v q) (c * row_words + j) f))
        (passes_or_fails (eqb (word_of v q) (c * row_words + j)));
  }
    where
      Shown : ℕ → ℕ → Type 0
      Shown v q =
          cell (set after (c * row_words + j) next_word) v q
          ≡ (cell words v q || (eqb v c && (ltb q ((j + 1) * word_bits) && not (cell rows u q))))

      -- a bit of the word that is written
      here : (v q : ℕ) → q < row_bits → word_of v q ≡ c * row_words + j → Shown v q
      here v q k e =
          let first : word_of c (j * word_bits) ≡ c * row_words + j = omega arith in
          let class : v ≡ c = one_user c v (j * word_bits) q (omega arith) k (rw first e) in
          let word : q / word_bits ≡ j = omega (arith, rw class at e) in
          let before : cell after v q ≡ cell words v q =
          added.shows v q k ∙ rw (
            le-ltb q (j * word_bits) (omega arith),
            and-false (eqb v c),
            or-false (cell words v q),
          ) in
          rw (
            class,
            word,
            get_or-set_same after (c * row_words + j) next_word 0 room,
            next_bit (q % word_bits) (mod-lt q (lit< tt)),
            rw (class, word) at before,
            eq-eqb c c refl,
            lt-ltb q ((j + 1) * word_bits) (omega arith),
          )

      -- below the end of the word is below its beginning, for a bit of another word of the class
      passed : (v q : ℕ) → word_of v q ≢ c * row_words + j
          → (eqb v c && (ltb q (j * word_bits) && not (cell rows u q))) ≡ (eqb v c && (ltb q ((j + 1) * word_bits)
          && not (cell rows u q)))
      passed v q apart = ⊎_elim same (λ f. rw f) (passes_or_fails (eqb v c))
        where
          same : So (eqb v c)
              → (eqb v c && (ltb q (j * word_bits) && not (cell rows u q))) ≡ (eqb v c && (ltb q ((j + 1) * word_bits)
              && not (cell rows u q)))
          same t =
              let class : v ≡ c = eqb-true v c t in
              let other : q / word_bits ≢ j = λ s. apart (rw (class, s)) in
              ap (λ b. eqb v c && (b && not (cell rows u q)))
              (same_truth (ltb q (j * word_bits)) (ltb q ((j + 1) * word_bits))
              (λ l. lt-ltb q ((j + 1) * word_bits) (omega (arith, ltb-true q (j * word_bits) l)))
              (λ l. lt-ltb q (j * word_bits) (omega (arith, ltb-true q ((j + 1) * word_bits) l))))

      elsewhere : (v q : ℕ) → q < row_bits → word_of v q ≢ c * row_words + j → Shown v q
      elsewhere v q k apart =
          rw (get_or-set_other after (c * row_words + j) (word_of v q) next_word 0 apart)
          (added.shows v q k ∙ ap (λ b. cell words v q || b) (passed v q apart))
