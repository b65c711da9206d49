-- Fit by the words. The rows say of any two cells what the sheet says of their grants. The word i of the cells near a
-- grant is that of left and that of the fitting cells together, so the cells near it are counted word by word; and as
-- many grants of the set fit it.
use Rattle.std.specs.Prelude.{ℕ, ◌+◌, ◌*◌, ◌/◌, ◌%◌, ◌≤◌, ◌<◌, ◌≡◌, Bool, false, ◌&&◌, List, map, length, get_or}
use Rattle.std.proofs.Common.{add-zero, mod-lt, mul_assoc, le-div_iff_mul-le, arith, ap, ◌∙◌}
use Rattle.std.proofs.Math.Nat.{le_dest}
use Rattle.std.proofs.Math.Path.{sym}
use Rattle.std.proofs.Math.Bool.{and-false}
use Rattle.std.proofs.Math.Arith.{digits_div, digits_mod}
use Rattle.std.specs.Int.Bits.{bit_and}
use Rattle.spec.specs.Vocabulary.{filter}
use Rattle.spec.specs.Sheet.{Sheet}
use Rattle.spec.specs.Fit.{fits}
use Rattle.spec.specs.Cover.{fit_at}
use Rattle.bits.specs.Counting.{count_below}
use Rattle.bits.specs.Laws.Count.{count_below_ext, count_below_add, count_below_none_intro}
use Rattle.bits.specs.Bit.{bit, word_bits}
use Rattle.bits.specs.Truth.{fails_unless}
use Rattle.bits.specs.Laws.Bit.{bit_of_and}
use Rattle.cell_rows.specs.Rows.{row_words, row_bits, cell}
use Rattle.cell_rows.specs.Laws.Width.{row_bits_pos, rows_cells}
use Rattle.cells.specs.CellSets.{cell_grants}
use Rattle.cells.specs.KernelArray.{grant_at_cell}
use Rattle.cell_rows.specs.CellPlaces.{cell_limit, cells_of, grant_of, marked, fit_in, near, FittingWord, Shown, Part}
use Rattle.cells.specs.Laws.CellList.{passing_grants_count}

-- ---- a word

pub marked_in_word : (words : List ℕ) (i q : ℕ) → q < word_bits → marked words (i * word_bits + q) ≡ bit
    (get_or words i 0) q
marked_in_word words i q l = rw (digits_div i l, digits_mod i l)

-- the word of left and the fitting word together
pub near_word : (rows left : List ℕ) (it i : ℕ) {word : ℕ} → FittingWord rows it i word
    → (q : ℕ) → q < word_bits → bit (bit_and (get_or left i 0) word) q ≡ near rows left it (i * word_bits + q)
near_word rows left it i {word} fitting q l =
    rw (bit_of_and (get_or left i 0) word q, fitting.bits q l, marked_in_word left i q l)

-- ---- counted word by word

pub count_next_word : (f : ℕ → Bool) (i word : ℕ) → ((q : ℕ) → q < word_bits → bit word q ≡ f (i * word_bits + q))
    → count_below ((i + 1) * word_bits) f ≡ count_below (i * word_bits) f + count_below word_bits (bit word)
count_next_word f i word says =
    let more : (i + 1) * word_bits ≡ i * word_bits + word_bits = omega arith in
    rw (more, count_below_add (i * word_bits) word_bits f)
    (ap (λ k. count_below (i * word_bits) f + k)
    (sym (count_below_ext word_bits (bit word) (λ q. f (i * word_bits + q)) says)))

-- ---- as the sheet says

module _ {rows : List ℕ} {users : ℕ} {sheet : Sheet} (shown : Shown rows users sheet) where
  pub fits_in_rows : (m n : ℕ) → fit_in rows (grant_of m) (grant_of n) ≡ fits sheet (grant_of m) (grant_of n)
  fits_in_rows m n =
      rw (
        shown.cells.shows (m / row_bits) (n % row_bits) (mod-lt n row_bits_pos),
        shown.cells.shows
            (n / row_bits) (m % row_bits) (mod-lt m row_bits_pos),
      )

  -- the same by the numbers of some cells
  pub fit_at_grants : (cells : List ℕ) (i j : ℕ) → i < length cells → j < length cells
      → fit_in rows (grant_of (get_or cells i 0)) (grant_of (get_or cells j 0)) ≡ fit_at sheet (map grant_of cells) i j
  fit_at_grants cells i j k l = rw (grant_at_cell cells i k, grant_at_cell cells j l) (fits_in_rows _ _)

  -- the grants of left that fit one, counted
  pub near_count : {left : List ℕ} → Part left rows → (it : ℕ)
      → count_below (users * row_words * word_bits) (near rows left it) ≡ length (filter (fits sheet (grant_of it))
      (cell_grants sheet left))
  unfolding row_bits
  near_count {left} part it =
      rw (mul_assoc users row_words word_bits)
      (count_below_ext (users * row_bits) (near rows left it) (λ n. marked left n && fits sheet (grant_of it)
      (grant_of n))
      (λ n l. rw (fits_in_rows it n))
      ∙ sym (passing_grants_count shown part (fits sheet (grant_of it))))

  -- past the users nobody holds anything
  none_near_past : (left : List ℕ) (it n : ℕ) → cells_of users ≤ n → near rows left it n ≡ false
  none_near_past left it n l =
      let past : users ≤ n / row_bits = (le-div_iff_mul-le row_bits_pos).1 (rw (rows_cells users) l) in
      let none = fails_unless (cell rows (n / row_bits) (it % row_bits)) (λ e.
      omega (
        arith,
        past,
        shown.few (n / row_bits) (it % row_bits)
            (sym (shown.cells.shows (n / row_bits) (it % row_bits) (mod-lt it row_bits_pos)) ∙ e),
      )) in
      rw (none, and-false (cell rows (it / row_bits) (n % row_bits)), and-false (marked left n))

  pub near_count_all : {left : List ℕ} → Part left rows → (it : ℕ) → cells_of users ≤ cell_limit
      → count_below cell_limit (near rows left it) ≡ length (filter (fits sheet (grant_of it))
      (cell_grants sheet left))
  near_count_all {left} part it few =
      let more = le_dest few in
      ap (λ n. count_below n (near rows left it)) (sym more.1)
      ∙ count_below_add (cells_of users) more.0 (near rows left it)
      ∙ ap (λ n. count_below (cells_of users) (near rows left it) + n)
      (count_below_none_intro more.0 (λ i. near rows left it (cells_of users + i))
      (λ i l. none_near_past left it (cells_of users + i) (omega arith)))
      ∙ add-zero (count_below (cells_of users) (near rows left it)) ∙ near_count part it
