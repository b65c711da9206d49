-- The lowest free class, word by word. A class is free for a permission if it is one of a set of allowed classes and
-- none of its members lacks the permission.
use Rattle.std.specs.Prelude.{ℕ, ◌+◌, ◌-◌, ◌*◌, ◌≤◌, ◌<◌, ◌≡◌, Bool, false, not, ◌&&◌, List, get_or}
use Rattle.std.proofs.Common.{le_refl, zero-mul, zero-add, add-sub_of_le, arith, ⊎_elim}
use Rattle.std.proofs.Math.Arith.{digits_div, digits_mod}
use Rattle.bits.specs.Counting.{NextFrom}
use Rattle.bits.specs.Laws.Below.{below_or_from}
use Rattle.bits.specs.Bit.{bit, word_bits}
use Rattle.cell_rows.specs.Rows.{row_words, row_bits, cell}

-- class c is one of the allowed ones, and none of its members lacks permission p
abbrev pub free : List ℕ → List ℕ → ℕ → ℕ → Bool
free allowed lacked p c = cell allowed 0 c && not (cell lacked c p)

-- the same of position x of word j of the allowed ones
abbrev pub free_in_word : ℕ → List ℕ → ℕ → ℕ → ℕ → Bool
free_in_word word lacked p j x = bit word x && not (cell lacked (j * word_bits + x) p)

-- ---- from word to word

-- the class at position x of word j of a set
pub in_word : (allowed : List ℕ) (j x : ℕ) → x < word_bits → cell allowed 0 (j * word_bits + x) ≡ bit
    (get_or allowed j 0) x
in_word allowed j x l = rw (zero-mul row_words, digits_div j l, digits_mod j l, zero-add j)

module _ (allowed lacked : List ℕ) (p j x : ℕ) (first : NextFrom (free_in_word (get_or allowed j 0) lacked p j)
    0 word_bits x)
    (earlier : (i : ℕ) → i < j * word_bits → free allowed lacked p i ≡ false) where
  -- none is free up to the position found
  pub none_before : (i : ℕ) → i < j * word_bits + x → free allowed lacked p i ≡ false
  none_before i l = ⊎_elim (earlier i) here (below_or_from i (j * word_bits))
    where
      here : j * word_bits ≤ i → free allowed lacked p i ≡ false
      here k =
          let y = i - j * word_bits in
          let e : j * word_bits + y ≡ i = add-sub_of_le k in
          let inside : y < word_bits = omega (arith, first.not_past) in
          let there : free allowed lacked p (j * word_bits + y) ≡ false = rw (in_word allowed j y inside)
          (first.skipped y (omega arith) (omega arith)) in
          rw e at there

  pub found_free : j < row_words → x < word_bits → NextFrom (free allowed lacked p) 0 row_bits
      (j * word_bits + x)
  unfolding row_bits
  found_free k l = record {
    not_before = omega arith;
    not_past = omega arith;
    skipped = λ i from. none_before i;
    passes = λ m. rw (in_word allowed j x l) (first.passes l);
  }

-- none is free in all words
pub none_free : (allowed lacked : List ℕ) (p : ℕ) → ((i : ℕ) → i < row_bits → free allowed lacked p i ≡ false)
    → NextFrom (free allowed lacked p) 0 row_bits row_bits
none_free allowed lacked p none = record {
  not_before = omega arith;
  not_past = le_refl row_bits;
  skipped = λ i from. none i;
  passes = λ l. absurd (omega arith);
}
