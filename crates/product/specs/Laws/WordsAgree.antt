-- The product of two matrices of words beside the rows of a sheet, row by row and word by word. A user's row after all
-- roles has the cells of the product, so a word of it is the sheet's word exactly where all its cells agree, since two
-- words are one where their bits are. Cells beyond the permissions are set on neither side.
use Prim.Native.Nat.{ℕ, ◌+◌, ◌*◌, ◌/◌, ◌%◌, ◌^◌, ◌≤◌, ◌<◌}
use Rattle.std.proofs.Common.{div-add-mod', mod-lt, arith, sym, ap, ◌∙◌, lit<}
use Rattle.std.specs.Prelude.{◌≡◌, false, List, [], length, get_or}
use Rattle.std.proofs.Math.Logic.{⊎_elim}
use Rattle.std.proofs.Math.Bool.{Bool, So, and-false, beq}
use Rattle.std.proofs.Math.Arith.{digits_lt, digits_div, digits_mod}
use Rattle.std.proofs.Math.ListN.{get_or-eq_default}
use Rattle.std.proofs.lemmas.List.{ext_get_or}
use Rattle.std.specs.Bool.{Decides}
use Rattle.spec.specs.Vocabulary.{every_below}
use Rattle.spec.specs.Sheet.{Sheet, user_count, permission_count, holds}
use Rattle.spec.specs.RoleSet.{product}
use Rattle.spec.specs.Refusal.{product_agrees}
use Rattle.bits.specs.Truth.{same_truth, beq_same, beq_refl}
use Rattle.bits.specs.Laws.Below.{below_or_from, every_below_intro, every_below_elim, every_below_ext}
use Rattle.bits.specs.Bit.{bit, word_bits}
use Rattle.bits.specs.Laws.Bit.{bit_ext}
use Rattle.cell_rows.specs.Rows.{row_words, row_bits, cell, RowsOf}
use Rattle.cell_rows.specs.Laws.Width.{word_in_row}
use Rattle.rules.specs.AcceptedFacts.{Lawful}
use Rattle.product.specs.RowAfter.{roles_in, RowAfter}
use Rattle.product.specs.RowAgrees.{cell_agrees, row_agrees}
use Rattle.product.specs.Laws.OrOverRoles.{none_opens}

-- ---- cell by cell of a word

module _ (rows has gives : List ℕ) (roles u : ℕ) where
  -- the cell at a position of word k agrees exactly where the two bits do
  word_cell : {row : List ℕ} → RowAfter has gives u roles row → (k q : ℕ) → k < row_words → q < word_bits
      → cell_agrees rows (roles_in has gives roles) u (k * word_bits + q) ≡ beq (bit (get_or row k 0) q)
      (bit (get_or rows (u * row_words + k) 0) q)
  unfolding product row_bits
  word_cell given k q h l =
      rw (← given.cells roles (k * word_bits + q) (digits_lt h l), digits_div k l, digits_mod k l)

  -- a user's row is a part of as many words of the sheet's rows exactly where all its cells agree
  module _ {row part : List ℕ} (given : RowAfter has gives u roles row) (width : length row ≡ row_words)
      (same_width : length part ≡ row_words)
      (here : (k : ℕ) → k < row_words → get_or part k 0 ≡ get_or rows (u * row_words + k) 0) where
    same_agrees : row ≡ part → So (row_agrees rows (roles_in has gives roles) u)
    unfolding row_agrees
    same_agrees same =
        every_below_intro row_bits (cell_agrees rows (roles_in has gives roles) u)
        (λ p l.
        let h : p / word_bits < row_words = word_in_row p l in
        ap (cell_agrees rows (roles_in has gives roles) u) (sym (div-add-mod' p word_bits))
        ∙ word_cell given (p / word_bits) (p % word_bits) h (mod-lt p (lit< tt))
        ∙ rw (ap (λ (words : List ℕ). get_or words (p / word_bits) 0) same ∙ here (p / word_bits) h)
        (beq_refl (bit (get_or rows (u * row_words + p / word_bits) 0) (p % word_bits))))

    pub agrees_where_same : ((k : ℕ) → get_or row k 0 < 2 ^ word_bits) → ((k : ℕ) → get_or rows k 0 < 2 ^ word_bits)
        → Decides (row_agrees rows (roles_in has gives roles) u) (row ≡ part)
    unfolding row_agrees row_bits
    agrees_where_same small other = (
      (λ all. ext_get_or 0 row part (width ∙ sym same_width) (λ k l.
          let h : k < row_words = omega arith in
          bit_ext word_bits (get_or row k 0) (get_or rows (u * row_words + k) 0) (small k) (other (u * row_words + k))
          (λ q m. beq_same (bit (get_or row k 0) q) (bit (get_or rows (u * row_words + k) 0) q)
          (sym (word_cell given k q h m)
          ∙ every_below_elim (row_words * word_bits) (cell_agrees rows (roles_in has gives roles) u) all
          (digits_lt h m)))
          ∙ sym (here k h))),
      same_agrees,
    )

-- ---- the rows are the sheet's

module _ (sheet : Sheet) (lawful : Lawful sheet) (rows has gives : List ℕ) (roles : ℕ) (shown : RowsOf rows sheet)
    (beyond : (r p : ℕ) → r < roles → permission_count sheet ≤ p → p < row_bits → cell gives r p ≡ false) where
  -- no cell beyond the permissions is set
  nothing_given : (u p : ℕ) → permission_count sheet ≤ p → p < row_bits → product (roles_in has gives roles) u p ≡ false
  unfolding product
  nothing_given u p h k =
      none_opens (roles_in has gives roles) u p roles (λ r l. rw (beyond r p l h k) (and-false (cell has u r)))

  nothing_held : (u p : ℕ) → u < user_count sheet → permission_count sheet ≤ p → holds sheet u p ≡ false
  nothing_held u p h k = get_or-eq_default (get_or sheet.rows u []) false (let e = lawful.a_cell_each u h
      in omega arith)

  row_is_sheet : (u : ℕ) → u < user_count sheet → permission_count sheet ≤ row_bits
      → row_agrees rows (roles_in has gives roles) u
      ≡ every_below (permission_count sheet) (λ p. beq (product (roles_in has gives roles) u p) (holds sheet u p))
  unfolding row_agrees
  row_is_sheet u h wide =
      same_truth (every_below row_bits (cell_agrees rows (roles_in has gives roles) u))
      (every_below (permission_count sheet) test)
      (λ all. every_below_intro (permission_count sheet) test (λ p l.
      rw (shown.shows u p (omega arith)) at (every_below_elim row_bits (cell_agrees rows (roles_in has gives roles)
      u) all {i = p} (omega arith))))
      (λ all. every_below_intro row_bits (cell_agrees rows (roles_in has gives roles) u) (λ p l. ⊎_elim
      (λ (within : p < permission_count sheet). rw (shown.shows u p l) (every_below_elim (permission_count sheet)
      test all within))
      (λ (past : permission_count sheet ≤ p). rw (
        shown.shows u p l,
        nothing_given u p past l,
        nothing_held u p h
            past,
      ))
      (below_or_from p (permission_count sheet))))
    where
      test : ℕ → Bool
      test p = beq (product (roles_in has gives roles) u p) (holds sheet u p)

  -- all rows agree exactly where the product is the sheet
  pub rows_are_sheet : permission_count sheet ≤ row_bits
      → every_below (user_count sheet) (row_agrees rows (roles_in has gives roles)) ≡ product_agrees sheet
      (roles_in has gives roles)
  unfolding product_agrees
  rows_are_sheet wide =
      every_below_ext (user_count sheet) (row_agrees rows (roles_in has gives roles))
      (λ u. every_below (permission_count sheet) (λ p. beq (product (roles_in has gives roles) u p)
      (holds sheet u p)))
      (λ u h. row_is_sheet u h wide)
