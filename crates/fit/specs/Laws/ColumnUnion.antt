-- The union of columns, taken one after the other: what is joined and what is still to come make the whole. It
-- reaches every user who holds one of the permissions.
use Rattle.std.specs.Prelude.{ℕ, ◌+◌, ◌*◌, ◌<◌, ◌≡◌, Bool, not, ◌&&◌, ◌||◌, List, eqb, get_or}
use Rattle.std.proofs.Common.{sym, ap, ◌∙◌}
use Rattle.std.proofs.Math.Bool.{So, or_assoc, or_comm, or-false}
use Rattle.std.proofs.Math.Arith.{digits_lt}
use Rattle.std.specs.Int.Bits.{bit_or}
use Rattle.bits.specs.Truth.{and_intro}
use Rattle.bits.specs.Counting.{some_below, Lowest}
use Rattle.bits.specs.Bit.{bit, word_bits}
use Rattle.bits.specs.Laws.Below.{some_below_intro, some_below_ext, none_below_intro}
use Rattle.bits.specs.Laws.Bit.{bit_of_or, bit_of_zero}
use Rattle.bits.specs.Laws.Cut.{some_below_apart}
use Rattle.bits.specs.Laws.Step.{some_below_step}
use Rattle.bits.specs.Word.{LowestDropped}
use Rattle.cell_rows.specs.Rows.{row_words, row_bits}
use Rattle.fit.specs.Columns.{column_words, held_in, Columns}
use Rattle.fit.specs.ColumnUnion.{in_union}
use Rattle.fit.specs.Laws.Column.{column_position}

-- the columns of the permissions at the positions of w are still to be joined
abbrev pub Joining : List ℕ → ℕ → ℕ → ℕ → ℕ → ℕ → Type 0
Joining columns word k j some w = (t : ℕ) → (bit some t || in_union columns w k j t) ≡ in_union columns word k j t

module _ (columns : List ℕ) (word k j : ℕ) where
  pub union_starts : Joining columns word k j 0 word
  union_starts t = ap (λ b. b || in_union columns word k j t) (bit_of_zero t)

  pub union_goes_on : {w low rest : ℕ} (some : ℕ) → Lowest word_bits (bit w) low → LowestDropped w rest
      → Joining columns word k j some w
      → Joining columns word k j (bit_or some (get_or columns ((k * word_bits + low) * column_words + j) 0)) rest
  union_goes_on {w} {low} {rest} some is-low dropped so_far t =
      rw (bit_of_or some (get_or columns ((k * word_bits + low) * column_words + j) 0) t)
      (or_assoc (bit some t) (at low) (in_union columns rest k j t)
      ∙ ap (λ b. bit some t || b) (sym lowest_apart) ∙ so_far t)
    where
      at : ℕ → Bool
      at q = bit (get_or columns ((k * word_bits + q) * column_words + j) 0) t

      lowest_apart : in_union columns w k j t ≡ (at low || in_union columns rest k j t)
      lowest_apart =
          some_below_apart word_bits (bit w) at is-low.within is-low.holds
          ∙ ap (λ b. at low || b)
          (some_below_ext word_bits (λ q. bit w q && not (eqb q low) && at q) (λ q. bit rest q && at q)
          (λ q l. ap (λ b. b && at q) (sym (dropped.others is-low q))))

  pub union_ends : (some : ℕ) → Joining columns word k j some 0 → (t : ℕ) → bit some t ≡ in_union columns word k j t
  union_ends some all t =
      sym (or-false (bit some t))
      ∙ ap (λ b. bit some t || b)
      (sym (none_below_intro word_bits (λ q. bit 0 q
      && bit (get_or columns ((k * word_bits + q) * column_words + j) 0) t)
      (λ q l. ap (λ b. b && bit (get_or columns ((k * word_bits + q) * column_words + j) 0) t) (bit_of_zero q))))
      ∙ all t

-- a union of some words' columns, and that of the next word's
pub union_joined : (test : ℕ → Bool) (k some next t : ℕ) → bit some t ≡ some_below k test → bit next t ≡ test k
    → bit (bit_or some next) t ≡ some_below (k + 1) test
union_joined test k some next t so_far here =
    bit_of_or some next t ∙ rw (so_far, here) (or_comm (some_below k test) (test k) ∙ sym (some_below_step k test))

-- who holds a permission at a position of the word is in the union of the columns of the rows
pub union_reaches : (rows columns : List ℕ) → Columns rows columns → (word k j t q : ℕ) → k < row_words
    → j < column_words → t < word_bits → q < word_bits → So (bit word q)
    → So (held_in rows (k * word_bits + q) (j * word_bits + t)) → So (in_union columns word k j t)
unfolding row_bits
union_reaches rows columns made word k j t q within inside l m p h =
    some_below_intro word_bits (λ r. bit word r && bit (get_or columns ((k * word_bits + r) * column_words + j) 0) t) m
    (and_intro (bit word q) (bit (get_or columns ((k * word_bits + q) * column_words + j) 0) t) p
    (column_position rows columns made (k * word_bits + q) j t (digits_lt within m) inside l ∙ h))
