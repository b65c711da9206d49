-- Singles by the words. All cells of left in one word fit each other, so a single is the only one of its word; and a
-- count of the cells near it that is cut at 2 tells whether there is one.
use Rattle.std.specs.Prelude.{ℕ, min, ◌+◌, ◌*◌, ◌/◌, ◌%◌, ◌^◌, ◌≤◌, ◌<◌, ◌≡◌, List, eqb, get_or}
use Rattle.std.proofs.Common.{mod-lt, div-add-mod', lt_trans, arith, sym, ap, subst, ◌∙◌, ⊎_elim, eq-eqb, ne_eqb, lit<}
use Rattle.std.proofs.Math.Bool.{So}
use Rattle.bits.specs.Bit.{bit, word_bits}
use Rattle.bits.specs.Laws.Bit.{bit_of_zero}
use Rattle.bits.specs.Truth.{and_intro}
use Rattle.bits.specs.Counting.{count_below}
use Rattle.bits.specs.Laws.Below.{below_or_from, some_below_elim}
use Rattle.bits.specs.Laws.Count.{count_below_pos, count_below_none_intro}
use Rattle.bits.specs.Laws.CountJoin.{count_below_one_intro, count_below_one_elim}
use Rattle.bits.specs.Word.{LowestDropped}
use Rattle.bits.specs.Laws.Word.{some_bit, dropped_count}
use Rattle.cell_rows.specs.CellPlaces.{cell_limit, grant_of, marked, fit_in, near, Part}
use Rattle.fit.specs.Laws.FitWord.{marked_in_word}
use Rattle.verdict.specs.Laws.NearWord.{one_word_user, one_row_fits}

-- ---- one position

-- a word has one position if nothing is left of it without the lowest
pub one_position : (w rest : ℕ) → 0 < w → w < 2 ^ word_bits → LowestDropped w rest
    → eqb rest 0 ≡ eqb (count_below word_bits (bit w)) 1
one_position w rest pos fits dropped =
    ⊎_elim
    (λ (e : rest < 1). let nothing : rest ≡ 0 = omega arith in
    let none = count_below_none_intro word_bits (bit 0) (λ q l. bit_of_zero q) in
    let one : count_below word_bits (bit w) ≡ 1 = omega (
      arith,
      rw nothing at (dropped_count w rest pos fits dropped),
      none,
    ) in
    eq-eqb rest 0 nothing ∙ sym (eq-eqb (count_below word_bits (bit w)) 1 one))
    (λ (e : 1 ≤ rest). let other = some_below_elim word_bits (bit rest)
    (some_bit word_bits rest e (lt_trans dropped.less fits)) in
    let some = count_below_pos word_bits (bit rest) other.within other.holds in
    ne_eqb rest 0 (omega arith) ∙ sym (ne_eqb (count_below word_bits (bit w)) 1
    (omega (arith, dropped_count w rest pos fits dropped, some))))
    (below_or_from rest 1)

-- ---- singles

-- a count cut at 2 tells whether the whole is 1
pub one_of_two : (whole : ℕ) → eqb (min 2 whole) 1 ≡ eqb whole 1
one_of_two whole =
    ⊎_elim (λ (l : whole < 2). let same : min 2 whole ≡ whole = omega arith in ap (λ n. eqb n 1) same)
    (λ (l : 2 ≤ whole). ne_eqb (min 2 whole) 1 (omega arith) ∙ sym (ne_eqb whole 1 (omega arith)))
    (below_or_from whole 2)

module _ {rows left : List ℕ} (part : Part left rows) where
  -- the others of its word would fit it
  alone_at : (i q : ℕ) → q < word_bits → i * word_bits + q < cell_limit → So (marked left (i * word_bits + q))
      → count_below cell_limit (near rows left (i * word_bits + q)) ≡ 1
      → count_below word_bits (bit (get_or left i 0)) ≡ 1
  alone_at i q l inside set one =
      count_below_one_intro word_bits (bit (get_or left i 0)) l (sym (marked_in_word left i q l) ∙ set) (λ r k p.
      omega (
        arith,
        count_below_one_elim cell_limit (near rows left (i * word_bits + q)) one
            inside (near_to q l set) (omega arith) (near_to r k (marked_in_word left i r k ∙ p)),
      ))
    where
      near_to : (r : ℕ) → r < word_bits → So (marked left (i * word_bits + r))
          → So (near rows left (i * word_bits + q) (i * word_bits + r))
      near_to r k p =
          and_intro (marked left (i * word_bits + r)) (fit_in rows (grant_of (i * word_bits + q))
          (grant_of (i * word_bits + r))) p
          (one_row_fits rows (i * word_bits + q) (i * word_bits + r) (one_word_user i q r l k)
          (part.held (i * word_bits + q) set) (part.held (i * word_bits + r) p))

  pub alone_in_word : (it : ℕ) → it < cell_limit → So (marked left it)
      → count_below cell_limit (near rows left it) ≡ 1
      → count_below word_bits (bit (get_or left (it / word_bits) 0)) ≡ 1
  alone_in_word it =
      subst (λ n. n < cell_limit → So (marked left n) → count_below cell_limit (near rows left n) ≡ 1
      → count_below word_bits (bit (get_or left (it / word_bits) 0)) ≡ 1)
      (div-add-mod' it word_bits) (alone_at (it / word_bits) (it % word_bits) (mod-lt it (lit< tt)))
