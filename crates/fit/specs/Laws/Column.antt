-- Counting by columns. The positions of a column's word are taken one after the other, and each adds the cells of a
-- user near the grant. A user who is not in the column of the grant's permission has none, so the users of the column
-- count them all.
use Rattle.std.specs.Prelude.{ℕ, zero, suc, min, ◌+◌, ◌*◌, ◌/◌, ◌%◌, ◌≤◌, ◌<◌, ◌≡◌, refl, Bool, true, false, not, ◌&&◌, cond, List, eqb, get_or}
use Rattle.std.proofs.Common.{not-suc-le-zero, mul_assoc, arith, sym, ◌∙◌, ⊎_elim, eq-eqb, ne_eqb}
use Rattle.std.proofs.Math.Path.{ap}
use Rattle.std.proofs.Math.Bool.{So, and-true, and-false}
use Rattle.std.proofs.Math.Arith.{digits_lt, digits_div, digits_mod}
use Rattle.std.specs.Int.Bits.{bit_and}
use Rattle.spec.specs.Limits.{user_limit}
use Rattle.bits.specs.Counting.{count_below, sum_below, Lowest}
use Rattle.bits.specs.Laws.Below.{below_or_from, last_or_below}
use Rattle.bits.specs.Laws.Block.{count_below_blocks}
use Rattle.bits.specs.Laws.Count.{count_below_le, count_below_none_intro}
use Rattle.bits.specs.Laws.Sum.{sum_below_ext, sum_below_add, sum_below_none, sum_below_le}
use Rattle.bits.specs.Truth.{passes_or_fails}
use Rattle.bits.specs.Bit.{bit, word_bits}
use Rattle.bits.specs.Laws.Bit.{bit_of_zero}
use Rattle.bits.specs.Word.{LowestDropped}
use Rattle.cell_rows.specs.Rows.{row_words, row_bits, cell}
use Rattle.cell_rows.specs.CellPlaces.{cell_limit, marked, near, FittingWord, CountedBelow}
use Rattle.cell_rows.specs.Laws.Width.{rows_cells}
use Rattle.fit.specs.Laws.FitWord.{marked_in_word, near_word, count_next_word}
use Rattle.fit.specs.Laws.ColumnPlaces.{whole_columns, column_from}
use Rattle.fit.specs.Columns.{column_words, held_in, near_in_row, near_if, Columns}

-- ---- the positions of a word, one after the other

-- one number that passes adds its own
sum_without : (n : ℕ) (f : ℕ → Bool) (g : ℕ → ℕ) {p : ℕ} → p < n → So (f p)
    → sum_below n (λ i. cond (f i) (g i) 0) ≡ sum_below n (λ i. cond (f i && not (eqb i p)) (g i) 0) + g p
unfolding sum_below
sum_without zero f g l e = absurd (not-suc-le-zero l)
sum_without (suc n) f g {p} l e =
    ⊎_elim
    (λ (same : p ≡ n). rw (same, rw same at e, eq-eqb n n refl)
    (rw (sum_below_ext n (λ i. cond (f i) (g i) 0) (λ i. cond (f i && not (eqb i n)) (g i) 0)
    (λ i k. rw (ne_eqb i n (omega arith), and-true (f i))))
    (omega arith)))
    (λ (k : p < n). rw (ne_eqb n p (omega arith), and-true (f n)) (omega (arith, sum_without n f g k e)))
    (last_or_below l)

-- what the positions of a word add
abbrev pub word_sum : (ℕ → ℕ) → ℕ → ℕ
word_sum g w = sum_below word_bits (λ q. cond (bit w q) (g q) 0)

pub word_sum_dropped : (g : ℕ → ℕ) {w q rest : ℕ} → Lowest word_bits (bit w) q → LowestDropped w rest
    → word_sum g w ≡ word_sum g rest + g q
word_sum_dropped g {w} {q} {rest} low dropped =
    sum_without word_bits (bit w) g low.within low.holds
    ∙ ap (λ k. k + g q) (sum_below_ext word_bits (λ r. cond (bit w r && not (eqb r q)) (g r) 0)
    (λ r. cond (bit rest r) (g r) 0)
    (λ r l. rw (dropped.others low r)))

pub word_sum_of_none : (g : ℕ → ℕ) → word_sum g 0 ≡ 0
word_sum_of_none g = sum_below_none word_bits (λ q. cond (bit 0 q) (g q) 0) (λ q l. rw (bit_of_zero q))

-- ---- the positions of a column

pub column_position : (rows columns : List ℕ) → Columns rows columns → (p j q : ℕ) → p < row_bits → j < column_words
    → q < word_bits
    → bit (get_or columns (p * column_words + j) 0) q ≡ held_in rows p (j * word_bits + q)
column_position rows columns made p j q k l m =
    let n = (p * column_words + j) * word_bits + q in
    let inside : j * word_bits + q < user_limit = rw whole_columns at (digits_lt l m) in
    let place : n ≡ p * user_limit + (j * word_bits + q) = omega (arith, column_from p) in
    sym (marked_in_word columns (p * column_words + j) q m) ∙ ap (marked columns) place
    ∙ made.inside (p * user_limit + (j * word_bits + q)) (digits_lt k inside)
    ∙ rw (digits_div p inside, digits_mod p inside)

-- ---- the cells of a user near a grant

module _ (rows left : List ℕ) (it : ℕ) where
  near_if_le : (taken : Bool) (u : ℕ) → near_if taken rows left it u ≤ row_bits
  near_if_le true u = count_below_le row_bits (λ p. near rows left it (u * row_bits + p))
  near_if_le false u = omega arith

  pub near_sum_le : (n : ℕ) (taken : ℕ → Bool) (at : ℕ → ℕ) → sum_below n (λ u. near_if (taken u) rows left it (at u))
      ≤ n * row_bits
  near_sum_le n taken at = sum_below_le n row_bits (λ u. near_if (taken u) rows left it (at u))
      (λ u l. near_if_le (taken u) (at u))

  -- the first k words of the row that starts with this word
  abbrev pub near_words : ℕ → ℕ → ℕ
  near_words row k = count_below (k * word_bits) (λ p. near rows left it (row * word_bits + p))

  pub near_words_more : (row k : ℕ) {word : ℕ} → FittingWord rows it (row + k) word
      → near_words row (k + 1) ≡ near_words row k + count_below word_bits (bit (bit_and (get_or left (row + k) 0) word))
  near_words_more row k {word} fitting =
      count_next_word (λ p. near rows left it (row * word_bits + p)) k (bit_and (get_or left (row + k) 0) word)
      (λ q l. near_word rows left it (row + k) fitting q l ∙ ap (near rows left it) (place q))
    where
      place : (q : ℕ) → (row + k) * word_bits + q ≡ row * word_bits + (k * word_bits + q)
      place q = omega arith

  pub near_words_all : (u : ℕ) → near_words (u * row_words) row_words ≡ near_in_row rows left it u
  unfolding row_bits
  near_words_all u =
      ap (λ (n : ℕ). count_below row_bits (λ p. near rows left it (n + p))) (mul_assoc u row_words word_bits)

  -- the users of a permission below n
  abbrev pub column_sum : ℕ → ℕ → ℕ
  column_sum p n = sum_below n (λ u. near_if (held_in rows p u) rows left it u)

  pub column_next_word : (columns : List ℕ) → Columns rows columns → (p j : ℕ) → p < row_bits → j < column_words
      → column_sum p ((j + 1) * word_bits)
      ≡ column_sum p (j * word_bits) + word_sum (λ q. near_in_row rows left it (j * word_bits + q))
      (get_or columns (p * column_words + j) 0)
  column_next_word columns made p j k l =
      let more : (j + 1) * word_bits ≡ j * word_bits + word_bits = omega arith in
      rw (more, sum_below_add (j * word_bits) word_bits (λ u. near_if (held_in rows p u) rows left it u))
      (ap (λ n. column_sum p (j * word_bits) + n)
      (sum_below_ext word_bits (λ q. near_if (held_in rows p (j * word_bits + q)) rows left it (j * word_bits + q))
      (λ q. near_if (bit (get_or columns (p * column_words + j) 0) q) rows left it (j * word_bits + q))
      (λ q m. rw (column_position rows columns made p j q k l m))))

  -- a user who is not in the column has no cell near the grant
  none_near : (u : ℕ) → held_in rows (it % row_bits) u ≡ false → near_in_row rows left it u ≡ 0
  none_near u e =
      count_below_none_intro row_bits (λ p. near rows left it (u * row_bits + p))
      (λ p l. rw (digits_div u l)
      (rw e (rw (and-false (cell rows (it / row_bits) ((u * row_bits + p) % row_bits)))
      (and-false (marked left (u * row_bits + p))))))

  column_or_none : (u : ℕ) → near_if (held_in rows (it % row_bits) u) rows left it u ≡ near_in_row rows left it u
  column_or_none u = ⊎_elim (λ e. rw e) (λ e. rw e (sym (none_near u e)))
      (passes_or_fails (held_in rows (it % row_bits) u))

  -- so the users of the column count all
  pub column_counts_all : column_sum (it % row_bits) user_limit ≡ count_below cell_limit (near rows left it)
  column_counts_all =
      sum_below_ext user_limit (λ u. near_if (held_in rows (it % row_bits) u) rows left it u)
      (near_in_row rows left it)
      (λ u l. column_or_none u)
      ∙ sym (count_below_blocks user_limit row_bits (near rows left it))
      ∙ ap (λ n. count_below n (near rows left it)) (rows_cells user_limit)

-- a count that goes on where another ended
pub counted_on : {most whole n r : ℕ} (more : ℕ) → CountedBelow most whole n → CountedBelow most (n + more) r
    → CountedBelow most (whole + more) r
counted_on more first then = record {
  below = λ l. let exact = then.below l in omega (arith, exact, first.below (omega (arith, exact)));
  not_more = omega (arith, first.not_more, then.not_more);
}

-- which is cut at most
pub cut_at : {most whole n : ℕ} → CountedBelow most whole n → most < n → most ≡ min most whole
cut_at counted l = omega (arith, counted.not_more)

pub not_cut : {most whole n : ℕ} → CountedBelow most whole n → n ≤ most → n ≡ min most whole
not_cut {most} {n = n} counted l =
    ⊎_elim (λ (k : n < most). omega (arith, counted.below k)) (λ (k : most ≤ n). omega (arith, counted.not_more))
    (below_or_from n most)
