-- A row of words that has no cell set is read word by word. A word that is stored changes no cell of another, so the
-- row has the cells that were read and no further ones, and every other row is as it was.
use Rattle.std.specs.Prelude.{ℕ, ◌+◌, ◌*◌, ◌/◌, ◌%◌, ◌≤◌, ◌<◌, ◌≡◌, refl, ◌⊎◌, ◌≢◌, false, List, eqb, length, get_or}
use Rattle.std.specs.Prelude.{set}
use Rattle.std.proofs.Common.{arith, sym, ap, ◌∙◌, inl, inr, ⊎_elim, eqb-true, get_or-set_same, get_or-set_other}
use Rattle.std.proofs.lemmas.Bool.{eqb-false}
use Rattle.std.proofs.Math.Arith.{digits_div, digits_mod}
use Rattle.bits.specs.Truth.{passes_or_fails}
use Rattle.bits.specs.Laws.Below.{below_or_from}
use Rattle.bits.specs.Bit.{bit, word_bits}
use Rattle.cell_rows.specs.Rows.{row_words, row_bits, cell}
use Rattle.cell_rows.specs.Laws.Width.{word_in_row, row_inside}

-- a row without any cell set
pub record Blank (words : List ℕ) (row : ℕ) : Type 0 where
  pub none : (p : ℕ) → p < row_bits → cell words row p ≡ false

-- every row but one is as it was
abbrev pub OthersKept : List ℕ → List ℕ → ℕ → Type 0
OthersKept words after row = (u p : ℕ) → u ≢ row → p < row_bits → cell after u p ≡ cell words u p

-- the words past a row are as they were
abbrev pub LaterKept : List ℕ → List ℕ → ℕ → Type 0
LaterKept words after row = (i : ℕ) → (row + 1) * row_words ≤ i → get_or after i 0 ≡ get_or words i 0

-- the first n cells of a row have been read: no other row has changed, and no further cell is set
pub record Grown (words after : List ℕ) (row n : ℕ) : Type 0 where
  pub others : OthersKept words after row
  pub later : LaterKept words after row
  pub beyond : (p : ℕ) → n ≤ p → p < row_bits → cell after row p ≡ false

pub grown_none : {words : List ℕ} {row : ℕ} → Blank words row → Grown words words row 0
grown_none b = record { others = λ u p h l. refl; later = λ i h. refl; beyond = λ p h l. b.none p l }

-- ---- a word is stored

-- word k of a row is stored, and no cell of another word changes
pub record WordStored (words after : List ℕ) (row k w : ℕ) : Type 0 where
  pub here : (q : ℕ) → q < word_bits → cell after row (k * word_bits + q) ≡ bit w q
  pub others : (u p : ℕ) → u ≢ row ⊎ p / word_bits ≢ k → p < row_bits → cell after u p ≡ cell words u p
  pub later : LaterKept words after row

pub word_stored : (words : List ℕ) (row k w : ℕ) → k < row_words → row * row_words + k < length words
    → WordStored words (set words (row * row_words + k) w) row k w
word_stored words row k w h l =
    record {
      here = λ q m. rw (digits_div k m, digits_mod k m, get_or-set_same words (row * row_words + k) w 0 l);
      others = λ u p d m.
          ap (λ (n : ℕ). bit n (p % word_bits)) (get_or-set_other words (row * row_words + k)
          (u * row_words + p / word_bits) w 0 (λ e. apart u p d m e));
      later = λ i m. get_or-set_other words (row * row_words + k) i w 0 (λ e.
          let below = row_inside row (row + 1) k (omega arith) h in omega arith);
    }
  where
    apart : (u p : ℕ) → u ≢ row ⊎ p / word_bits ≢ k → p < row_bits → u * row_words + p / word_bits ≡ row * row_words +
        k → ⊥
    apart u p d m e =
        let user : u ≡ row = sym (digits_div u (word_in_row p m)) ∙ ap (λ (n : ℕ). n / row_words) e
        ∙ digits_div row h in
        ⊎_elim (λ (other : u ≢ row). other user) (λ (other : p / word_bits ≢ k). other (omega (arith, rw user at e))) d

-- cells from i on are read as a word of n positions
module _ {words mid after : List ℕ} {row i n k w : ℕ} (g : Grown words mid row i) (put : WordStored mid after row k w)
    (inside : k < row_words)
    (start : i ≤ k * word_bits) (same : 0 < n → i ≡ k * word_bits) (few : n ≤ word_bits) where
  pub cells_kept : (p : ℕ) → p < i → cell after row p ≡ cell mid row p
  unfolding row_bits
  cells_kept p h = put.others row p (inr (λ e. let s : p / word_bits ≡ k = e in omega arith)) (omega arith)

  pub cells_read : (j : ℕ) → j < n → cell after row (i + j) ≡ bit w j
  cells_read j h = rw (same (omega arith)) (put.here j (omega arith))

  pub grown_more : ((q : ℕ) → n ≤ q → bit w q ≡ false) → Grown words after row (i + n)
  grown_more clear =
      record {
        others = λ u p h l. put.others u p (inl h) l ∙ g.others u p h l;
        later = λ i h. put.later i h ∙ g.later i h;
        beyond = λ p h l.
            ⊎_elim (λ (t : p / word_bits ≡ k). in_it p h t) (λ (other : p / word_bits ≢ k). put.others row p
            (inr other) l ∙ g.beyond p (omega arith) l)
            (same_or_other (p / word_bits) k);
      }
    where
      same_or_other : (a b : ℕ) → (a ≡ b) ⊎ (a ≢ b)
      same_or_other a b = ⊎_elim (λ t. inl (eqb-true a b t)) (λ f. inr (eqb-false a b f)) (passes_or_fails (eqb a b))

      past : (p : ℕ) → i + n ≤ p → p / word_bits ≡ k → n ≤ p % word_bits
      past p h t = ⊎_elim (λ (l : 0 < n). let s = same l in omega arith) (λ (l : n ≤ 0). omega arith)
          (below_or_from 0 n)

      in_it : (p : ℕ) → i + n ≤ p → p / word_bits ≡ k → cell after row p ≡ false
      in_it p h t =
          let place : p ≡ k * word_bits + p % word_bits = omega arith in
          ap (cell after row) place ∙ put.here (p % word_bits) (omega arith) ∙ clear (p % word_bits) (past p h t)
