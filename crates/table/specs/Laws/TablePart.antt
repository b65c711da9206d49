-- How the fit table comes about from its parts: a word of the cells that are there, the word of a grant from its
-- user's and its permission's, and the table grant by grant. Past the last grant its words stay 0.
use Rattle.std.specs.Prelude.{ℕ, ◌+◌, ◌*◌, ◌/◌, ◌%◌, ◌<◌, ◌≤◌, ◌≡◌, Bool, true, false, ◌&&◌, List, ltb, length, get_or, set, replicate}
use Rattle.std.proofs.Common.{arith, sym, ◌∙◌, get_or-set_same}
use Rattle.std.proofs.Math.Path.{refl}
use Rattle.std.proofs.Math.Logic.{⊎_elim}
use Rattle.std.proofs.Math.Bool.{So}
use Rattle.std.proofs.lemmas.Bool.{false≢true}
use borrow.Author.Tests.{lt-ltb, le-ltb}
use Rattle.std.proofs.Math.Arith.{digits_div, digits_mod}
use Rattle.std.proofs.Math.ListN.{length-set}
use Rattle.std.proofs.lemmas.List.{get_or-replicate}
use Rattle.std.proofs.Math.Seq.{get_or-set_other}
use Rattle.std.specs.Int.Bits.{bit_and}
use Rattle.bits.specs.Laws.Below.{below_or_from}
use Rattle.bits.specs.Bit.{word_bits}
use Rattle.bits.specs.Laws.Bit.{bit_of_zero, bit_of_and}
use Rattle.cell_rows.specs.Rows.{row_bits}
use Rattle.cell_rows.specs.CellPlaces.{marked}
use Rattle.table.specs.TableWords.{table_row, table_limit, table_word, FirstBits}
use Rattle.table.specs.TableParts.{CellsFrom, user_holds_at, user_holds, permission_held_at, permission_held}
use Rattle.table.specs.TableParts.{ColumnsOf}
use Rattle.table.specs.Laws.Table.{FirstWords, word_put_in}

-- a word of the cells that are there has no other
pub all_cells : {size from count : ℕ} → CellsFrom size from count → (test : ℕ → Bool) {word : ℕ}
    → FirstBits test count word
    → FirstBits (λ q. ltb (from + q) size && test q) word_bits word
all_cells {size} {from} {count} there test first = record {
  bits = λ q l. first.bits q l ∙ rw (lt-ltb q word_bits l) (⊎_elim (inside q) (outside q l) (below_or_from q count));
}
  where
    inside : (q : ℕ) → q < count → (ltb q count && test q) ≡ (ltb (from + q) size && test q)
    inside q k = rw (lt-ltb q count k, lt-ltb (from + q) size (there.there q k))

    outside : (q : ℕ) → q < word_bits → count ≤ q → (ltb q count && test q) ≡ (ltb (from + q) size && test q)
    outside q l k = rw (le-ltb q count k, le-ltb (from + q) size (there.all q l k))

-- the columns of the permissions below p + 1
module _ {rows cells some words : List ℕ} {from p : ℕ} (so_far : ColumnsOf rows cells from some p words) where
  pub column_put_in : (w : ℕ) → p < length words → FirstBits (user_holds rows cells from p) word_bits w
      → ColumnsOf rows cells from some (p + 1) (set words p w)
  column_put_in w inside here = record { column = λ q l m. ⊎_elim (earlier q m) (latest q l) (below_or_from q p) }
    where
      earlier : (q : ℕ) → So (marked some q) → q < p → FirstBits (user_holds rows cells from q) word_bits
          (get_or (set words p w) q 0)
      earlier q m k = rw (get_or-set_other words p q w 0 (omega arith)) (so_far.column q k m)

      latest : (q : ℕ) → q < p + 1 → p ≤ q → FirstBits (user_holds rows cells from q) word_bits
          (get_or (set words p w) q 0)
      latest q l k = let same : q ≡ p = omega arith in rw (same, get_or-set_same words p w 0 inside) here

  pub column_left_out : marked some p ≡ false → ColumnsOf rows cells from some (p + 1) words
  column_left_out f = record {
    column = λ q l m. ⊎_elim (λ k. so_far.column q k m) (λ k. absurd (latest q l m k))
        (below_or_from q p);
  }
    where
      latest : (q : ℕ) → q < p + 1 → So (marked some q) → p ≤ q → ⊥
      latest q l m k = let same : q ≡ p = omega arith in false≢true (sym f ∙ rw same at m)

-- two tests of cells that are there
both_there : (there a b : Bool) → ((there && a) && (there && b)) ≡ (there && (a && b))
both_there true true b = refl
both_there true false b = refl
both_there false a b = refl

-- the word of a grant: the cells whose permissions its user holds and whose users hold its permission
module _ (rows cells : List ℕ) (i half : ℕ) (there : i < length cells) (inside : half < table_row) where
  fit_word : {t p mine theirs : ℕ} → t ≡ i * table_row + half → p ≡ get_or cells i 0 % row_bits
      → FirstBits (permission_held rows cells (half * word_bits) (get_or cells i 0 / row_bits)) word_bits mine
      → FirstBits (user_holds rows cells (half * word_bits) p) word_bits theirs → FirstBits (table_word rows cells t)
      word_bits (bit_and mine theirs)
  fit_word {t} {p} {mine} {theirs} e same held holds =
      record {
        bits = λ q l.
            bit_of_and mine theirs q
            ∙ rw (
              held.bits q l,
              holds.bits q l,
              lt-ltb q word_bits l,
              e,
              same,
              digits_div i inside,
              digits_mod i
                  inside,
              lt-ltb i (length cells) there,
            )
            (both_there (ltb (half * word_bits + q) (length cells)) (permission_held_at rows cells (half * word_bits)
            (get_or cells i 0 / row_bits) q)
            (user_holds_at rows cells (half * word_bits) (get_or cells i 0 % row_bits) q));
      }

-- the words of the first i grants stand, and all others are 0
pub record Filled (rows cells : List ℕ) (i : ℕ) (words : List ℕ) : Type 0 where
  pub first : FirstWords rows cells (i * table_row) words
  pub rest : (t : ℕ) → i * table_row ≤ t → t < table_limit * table_row → get_or words t 0 ≡ 0

pub nothing_filled : (rows cells : List ℕ) → Filled rows cells 0 (replicate (table_limit * table_row) 0)
nothing_filled rows cells =
    record {
      first = record { word = λ s l. absurd (omega arith) };
      rest = λ t k l. get_or-replicate (table_limit * table_row) t 0 0 l;
    }

module _ {rows cells : List ℕ} {i : ℕ} {words : List ℕ} (filled : Filled rows cells i words) where
  row_filled : {a b : ℕ} → i < table_limit → length words ≡ table_limit * table_row
      → FirstBits (table_word rows cells (i * table_row)) word_bits a
      → FirstBits (table_word rows cells (i * table_row + 1)) word_bits b
      → Filled rows cells (i + 1) (set (set words (i * table_row) a) (i * table_row + 1) b)
  unfolding table_row
  row_filled {a} {b} inside size low high =
      let one = word_put_in rows cells (i * 2) words a filled.first (omega arith) low in
      let two = word_put_in rows cells (i * 2 + 1) (set words (i * 2) a) b one (simp length-set (omega arith)) high in
      record {
        first = record { word = λ s l. two.word s (omega arith) };
        rest = λ t k l.
            get_or-set_other (set words (i * 2) a) (i * 2 + 1) t b 0 (omega arith)
            ∙ get_or-set_other words (i * 2) t a 0 (omega arith)
            ∙ filled.rest t (omega arith) l;
      }

  -- the two words of a grant
  pub grant_filled : {p mine_low mine_high low high : ℕ} → i < table_limit → i < length cells
      → length words ≡ table_limit * table_row
      → p ≡ get_or cells i 0 % row_bits → FirstBits
      (permission_held rows cells 0 (get_or cells i 0 / row_bits)) word_bits
      mine_low
      → FirstBits (permission_held rows cells word_bits (get_or cells i 0 / row_bits)) word_bits mine_high
      → FirstBits (user_holds rows cells 0 p) word_bits low → FirstBits (user_holds rows cells word_bits p) word_bits
      high
      → Filled rows cells (i + 1) (set (set words (i * table_row) (bit_and mine_low low)) (i * table_row + 1)
      (bit_and mine_high high))
  unfolding table_row
  grant_filled inside there size same mine_low mine_high low high =
      row_filled inside size (fit_word rows cells i 0 there (omega arith) (omega arith) same mine_low low)
      (fit_word rows cells i 1 there (omega arith) refl same mine_high high)

  -- past the last grant nothing fits
  pub all_filled : (i < table_limit → i ≡ length cells) → FirstWords rows cells (table_limit * table_row) words
  unfolding table_row
  all_filled last = record { word = λ s l. ⊎_elim (filled.first.word s) (past s l) (below_or_from s (i * 2)) }
    where
      past : (s : ℕ) → s < 256 → i * 2 ≤ s → FirstBits (table_word rows cells s) word_bits (get_or words s 0)
      past s l k =
          record {
            bits = λ q m.
                rw (
                  filled.rest s k l,
                  bit_of_zero q,
                  lt-ltb q word_bits m,
                  le-ltb (s / 2) (length cells)
                      (omega (arith, last (omega arith))),
                );
          }
