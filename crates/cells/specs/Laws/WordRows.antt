-- Rows whose cells are those of rows of words: the lines that spell them, how many grants they have, and the words as
-- the rows of a sheet. Assumes nothing.
use Rattle.std.specs.Prelude.{ℕ, zero, suc, ◌+◌, ◌*◌, ◌/◌, ◌%◌, ◌≤◌, ◌<◌, ◌≡◌, refl, Bool, true, false, List, [], ◌∷◌, map, length, get_or}
use Rattle.std.proofs.Common.{le_trans, le-add_right, mul-le-mul_right, arith, sym, ap, ◌∙◌, ⊎_elim, length-append}
use Rattle.std.proofs.Math.ListN.{get_or-eq_default}
use Rattle.spec.specs.Vocabulary.{keep, list_from, list_of}
use Rattle.spec.specs.Text.{Bytes, Line}
use Rattle.spec.specs.Sheet.{Sheet, cell_text, user_count, grants_of_row, grants_of_rows}
use Rattle.spec.specs.Rules.{user_lines}
use Rattle.bits.specs.Counting.{one_if, count_below, sum_below}
use Rattle.bits.specs.Laws.Below.{below_or_from}
use Rattle.bits.specs.Laws.Count.{count_below_first}
use Rattle.bits.specs.Laws.Sum.{sum_below_first}
use Rattle.bits.specs.Bit.{word_bits}
use Rattle.bits.specs.Laws.Bit.{bit_of_zero}
use Rattle.lists.specs.ListOfLaws.{list_of_first, list_of_same, length_list_of, getD_list_of, map_list_of}
use Rattle.cell_rows.specs.Rows.{row_words, row_bits, cell}
use Rattle.cells.specs.RowsRead.{RowsRead}

-- a row of words as a row of a sheet
abbrev pub word_row : ℕ → List ℕ → ℕ → List Bool
word_row width words u = list_of width (cell words u)

-- the first n rows
abbrev pub word_rows : ℕ → List ℕ → ℕ → List (List Bool)
word_rows width words n = list_of n (word_row width words)

-- ---- lines

lines_from : (i n : ℕ) (name : ℕ → Bytes) (row : ℕ → List Bool)
    → user_lines (list_from i n name) (list_from i n row) ≡ list_from i n (λ u. name u ∷ map cell_text (row u))
lines_from i zero name row = refl
lines_from i (suc n) name row =
    ap (λ (l : List Line). (name i ∷ map cell_text (row i)) ∷ l) (lines_from (suc i) n name row)

-- the lines of names and of rows of words
pub word_lines : (n width : ℕ) (name : ℕ → Bytes) (words : List ℕ)
    → user_lines (list_of n name) (word_rows width words n) ≡ list_of n
    (λ u. name u ∷ list_of width (λ i. cell_text (cell words u i)))
word_lines n width name words =
    lines_from 0 n name (word_row width words)
    ∙ list_of_same n (λ u. name u ∷ map cell_text (word_row width words u))
    (λ u. name u ∷ list_of width (λ i. cell_text (cell words u i)))
    (λ u h. ap (λ (l : Line). name u ∷ l) (map_list_of cell_text width (cell words u)))

-- ---- grants

keep_length : {A : Type 0} (b : Bool) (a : A) (rest : List A) → length (keep b a rest) ≡ one_if b + length rest
keep_length true a rest = omega arith
keep_length false a rest = omega arith

row_grants : (u p width : ℕ) (f : ℕ → Bool) → length (grants_of_row u p (list_of width f)) ≡ count_below width f
unfolding count_below
row_grants u p zero f = refl
row_grants u p (suc width) f =
    ap (λ (l : List Bool). length (grants_of_row u p l)) (list_of_first width f)
    ∙ keep_length (f 0) (record { user = u; permission = p }) (grants_of_row u (suc p) (list_of width (λ i. f (suc i))))
    ∙ ap (λ (k : ℕ). one_if (f 0) + k) (row_grants u (suc p) width (λ i. f (suc i)))
    ∙ sym (count_below_first width f)

rows_grants : (u n width : ℕ) (f : ℕ → ℕ → Bool)
    → length (grants_of_rows u (list_of n (λ v. list_of width (f v)))) ≡ sum_below n (λ v. count_below width (f v))
unfolding sum_below
rows_grants u zero width f = refl
rows_grants u (suc n) width f =
    ap (λ (l : List (List Bool)). length (grants_of_rows u l)) (list_of_first n (λ v. list_of width (f v)))
    ∙ length-append (grants_of_row u 0 (list_of width (f 0)))
    (grants_of_rows (suc u) (list_of n (λ v. list_of width (f (suc v)))))
    ∙ rw (row_grants u 0 width (f 0), rows_grants (suc u) n width (λ v. f (suc v)))
    (sym (sum_below_first n (λ v. count_below width (f v))))

-- the grants of rows of words are as many as the rows have cells set
pub word_grants : (n width : ℕ) (words : List ℕ)
    → length (grants_of_rows 0 (word_rows width words n)) ≡ sum_below n (λ u. count_below width (cell words u))
word_grants n width words = rows_grants 0 n width (cell words)

-- ---- cells

-- rows with no cell past the width and no word past row n are the rows of a sheet with these rows
module _ (n width : ℕ) (words : List ℕ)
    (narrow : (u : ℕ) → u < n → (p : ℕ) → width ≤ p → p < row_bits → cell words u p ≡ false)
    (beyond : (i : ℕ) → n * row_words ≤ i → get_or words i 0 ≡ 0) where
  in_row : (u p : ℕ) → u < n → p < row_bits → cell words u p ≡ get_or (word_row width words u) p false
  in_row u p h k =
      ⊎_elim (λ l. sym (getD_list_of width (cell words u) p false l))
      (λ l. narrow u h p l k
      ∙ sym (get_or-eq_default (word_row width words u) false (rw (length_list_of width (cell words u)) l)))
      (below_or_from p width)

  past_rows : (u p : ℕ) → n ≤ u → n * row_words ≤ u * row_words + p / word_bits
  past_rows u p h = le_trans (mul-le-mul_right row_words h) (le-add_right (u * row_words) (p / word_bits))

  in_rows : (u p : ℕ) → p < row_bits → cell words u p ≡ get_or (get_or (word_rows width words n) u []) p false
  in_rows u p k = ⊎_elim row past (below_or_from u n)
    where
      row : u < n → cell words u p ≡ get_or (get_or (word_rows width words n) u []) p false
      row h = rw (getD_list_of n (word_row width words) u [] h) (in_row u p h k)

      past : n ≤ u → cell words u p ≡ get_or (get_or (word_rows width words n) u []) p false
      past h =
          let none : length (word_rows width words n) ≤ u = rw (length_list_of n (word_row width words)) h in
          rw (
            beyond (u * row_words + p / word_bits) (past_rows u p h),
            get_or-eq_default (word_rows width words n) [] none,
          )
          (bit_of_zero (p % word_bits))

  pub word_rows_read : (sheet : Sheet) → sheet.rows ≡ word_rows width words n → user_count sheet ≡ n
      → RowsRead words sheet
  word_rows_read sheet rows users =
      record {
        rows = record { shows = λ u p h. rw rows (in_rows u p h) };
        beyond = λ i h. beyond i (rw users at h);
      }
