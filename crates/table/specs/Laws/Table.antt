-- How the fit table comes about: a word position by position, the table word by word. Word t has the positions of
-- grant t / table-row that its place in the row says, so position j of grant i's words is in the word i * table-row +
-- j / word-bits.
use Rattle.std.specs.Prelude.{ℕ, ◌+◌, ◌*◌, ◌/◌, ◌%◌, ◌<◌, ◌≤◌, ◌≡◌, refl, Bool, true, false, ◌&&◌, ◌||◌, List, map, eqb, ltb, length, get_or, set}
use Rattle.std.proofs.Common.{mod-lt, div-add-mod', div-lt_iff_lt-mul, arith, ◌∙◌, ⊎_elim, lt-ltb, le-ltb, ltb-true, lit<, get_or-set_same, get_or-set_other}
use Rattle.std.proofs.Math.Bool.{So}
use Rattle.std.proofs.Math.Arith.{digits_div, digits_mod, digits_lt}
use Rattle.std.proofs.lemmas.List.{length-map}
use Rattle.spec.specs.Sheet.{Sheet}
use Rattle.bits.specs.Laws.Below.{below_or_from}
use Rattle.bits.specs.Bit.{bit, word_bits}
use Rattle.bits.specs.Laws.Bit.{bit_of_zero}
use Rattle.cell_rows.specs.CellPlaces.{grant_of, Shown}
use Rattle.cells.specs.Laws.NextBelow.{next_passes, next_fails}
use Rattle.fit.specs.Laws.FitWord.{fit_at_grants}
use Rattle.table.specs.TableWords.{table_row, table_limit, table_bit, fit_among, table_word, FirstBits, Table}

-- ---- a word

pub no_bits : (test : ℕ → Bool) → FirstBits test 0 0
no_bits test = record { bits = λ q l. rw (le-ltb q 0 (omega arith)) (bit_of_zero q) }

module _ (test : ℕ → Bool) (count word : ℕ) (first : FirstBits test count word) where
  pub bit_put_in : (with : ℕ) → So (test count) → ((q : ℕ) → bit with q ≡ (bit word q || eqb q count))
      → FirstBits test (count + 1) with
  bit_put_in with p says = record { bits = λ q l. says q ∙ rw (first.bits q l) (next_passes test q count p) }

  pub bit_left_out : test count ≡ false → FirstBits test (count + 1) word
  bit_left_out f = record { bits = λ q l. first.bits q l ∙ next_fails test q count f }

-- ---- the words

-- the first t words stand
pub record FirstWords (rows cells : List ℕ) (t : ℕ) (words : List ℕ) : Type 0 where
  pub word : (s : ℕ) → s < t → FirstBits (table_word rows cells s) word_bits (get_or words s 0)

pub word_put_in : (rows cells : List ℕ) (t : ℕ) (words : List ℕ) (w : ℕ) → FirstWords rows cells t words
    → t < length words
    → FirstBits (table_word rows cells t) word_bits w → FirstWords rows cells (t + 1) (set words t w)
word_put_in rows cells t words w first inside here = record {
  word = λ s l. ⊎_elim (earlier s) (latest s l)
      (below_or_from s t);
}
  where
    earlier : (s : ℕ) → s < t → FirstBits (table_word rows cells s) word_bits (get_or (set words t w) s 0)
    earlier s l = rw (get_or-set_other words t s w 0 (omega arith)) (first.word s l)

    latest : (s : ℕ) → s < t + 1 → t ≤ s → FirstBits (table_word rows cells s) word_bits (get_or (set words t w) s 0)
    latest s l m = let same : s ≡ t = omega arith in rw (same, get_or-set_same words t w 0 inside) here

-- ---- the table

-- what is the same where two tests pass
where_both : (a b : Bool) {c d : Bool} → (So a → So b → c ≡ d) → (a && b && c) ≡ (a && b && d)
where_both true true h = h refl refl
where_both true false h = refl
where_both false b h = refl

module _ (rows cells words : List ℕ) (first : FirstWords rows cells (table_limit * table_row) words) where
  pub table_entry : (i j : ℕ) → i < table_limit → j < table_limit → table_bit words i j ≡ fit_among rows cells i j
  table_entry i j k l =
      let inside : j / word_bits < table_row = (div-lt_iff_lt-mul (lit< tt)).1 l in
      let position : j % word_bits < word_bits = mod-lt j (lit< tt) in
      (first.word (i * table_row + j / word_bits) (digits_lt k inside)).bits (j % word_bits) position
      ∙ rw (
        lt-ltb (j % word_bits) word_bits position,
        digits_div i inside,
        digits_mod i inside,
        div-add-mod' j
            word_bits,
      )

  -- the cells of the kernel give its table
  pub table_of : {users : ℕ} {sheet : Sheet} → Shown rows users sheet → Table sheet (map grant_of cells) words
  table_of shown = record {
    entry = λ i j k l.
        table_entry i j k l
        ∙ rw (length-map cells grant_of)
        (where_both (ltb i (length cells)) (ltb j (length cells)) (λ p q.
        fit_at_grants shown cells i j (ltb-true i (length cells) p) (ltb-true j (length cells) q)));
  }
