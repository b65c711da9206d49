-- Sets of cells made word by word: the first words say what a test says of their cells, and the others are 0. When
-- all are made, the set has exactly the cells that pass. Where a call at each index gave the words, all are made.
use Rattle.std.specs.Prelude.{ℕ, zero, suc, ◌+◌, ◌*◌, ◌/◌, ◌%◌, ◌≤◌, ◌<◌, ◌≡◌, Bool, false, List, length, get_or, set, replicate}
use Rattle.std.specs.Fn.{Mut, Called}
use Rattle.std.specs.Array.{IsFromFnResult, IsFromFnResultFrom}
use Rattle.std.proofs.Common.{mod-lt, div-add-mod', div-lt_iff_lt-mul, le-div_iff_mul-le, arith, sym, ap, subst, ◌∙◌, ⊎_elim, lit<, get_or-set_same, get_or-set_other}
use Rattle.std.proofs.Math.Bool.{So}
use Rattle.std.proofs.lemmas.List.{length-replicate, get_or-replicate}
use Rattle.std.proofs.Math.ListN.{get_or-eq_default}
use Rattle.bits.specs.Truth.{not_both}
use Rattle.bits.specs.Laws.Below.{below_or_from}
use Rattle.bits.specs.Bit.{bit, word_bits}
use Rattle.bits.specs.Laws.Bit.{bit_of_zero}
use Rattle.cell_rows.specs.CellPlaces.{marked, Part}
use Rattle.cells.specs.MadeCells.{MadeCells}

-- the first i words are made
pub record MadeWords (test : ℕ → Bool) (i : ℕ) (words : List ℕ) : Type 0 where
  pub made : (s q : ℕ) → s < i → q < word_bits → bit (get_or words s 0) q ≡ test (s * word_bits + q)
  pub rest : (s : ℕ) → i ≤ s → get_or words s 0 ≡ 0

pub getD_zeros : (count s : ℕ) → get_or {A = ℕ} (replicate count 0) s 0 ≡ 0
getD_zeros count s =
    ⊎_elim (λ l. get_or-replicate count s 0 0 l) (λ l. get_or-eq_default (replicate count 0) 0
    (rw (length-replicate {A = ℕ} count 0) l)) (below_or_from s count)

-- words of 0 have no cell
pub no_cells : (count n : ℕ) → marked (replicate count 0) n ≡ false
no_cells count n = rw (getD_zeros count (n / word_bits)) (bit_of_zero (n % word_bits))

-- at first all words are 0
pub none_made : (test : ℕ → Bool) (count : ℕ) → MadeWords test 0 (replicate count 0)
none_made test count = record { made = λ s q l k. absurd (omega arith); rest = λ s l. getD_zeros count s }

pub one_made : (test : ℕ → Bool) (i : ℕ) (words : List ℕ) (w : ℕ) → MadeWords test i words → i < length words
    → ((q : ℕ) → q < word_bits → bit w q ≡ test (i * word_bits + q)) → MadeWords test (i + 1) (set words i w)
one_made test i words w m inside says = record {
  made = λ s q l k. ⊎_elim (λ o. rw (get_or-set_other words i s w 0 (omega arith)) (m.made s q o k)) (latest s q l k)
      (below_or_from s i);
  rest = λ s l. get_or-set_other words i s w 0 (omega arith) ∙ m.rest s (omega arith);
}
  where
    latest : (s q : ℕ) → s < i + 1 → q < word_bits → i ≤ s
        → bit (get_or (set words i w) s 0) q ≡ test (s * word_bits + q)
    latest s q l k o = let same : s ≡ i = omega arith in rw (same, get_or-set_same words i w 0 inside) (says q k)

pub all_made : (test : ℕ → Bool) (i : ℕ) (words : List ℕ) → MadeWords test i words → MadeCells test (i * word_bits)
    words
all_made test i words m = record {
  inside = λ n l.
      m.made (n / word_bits) (n % word_bits) ((div-lt_iff_lt-mul (lit< tt)).1 l) (mod-lt n (lit< tt))
      ∙ ap test (div-add-mod' n word_bits);
  outside = λ n l. rw (m.rest (n / word_bits) ((le-div_iff_mul-le (lit< tt)).1 l)) (bit_of_zero (n % word_bits));
}

-- ---- by a call at each index, as `array::from_fn` makes them: each leaves what is called as it was

module _ {F : Type 0} (g : Mut F (ℕ × Unit {0}) ℕ) (f : F) (test : ℕ → Bool) (words : List ℕ)
    (says : (k w : ℕ) (f' : F) → Called g f (k, tt) w f'
    → ((q : ℕ) → q < word_bits → bit w q ≡ test (k * word_bits + q)) × (f' ≡ f)) where
  -- each word from the i-th on
  word_called : (i n : ℕ) → IsFromFnResultFrom g f words i n → (s q : ℕ) → i ≤ s → s < i + n → q < word_bits
      → bit (get_or words s 0) q ≡ test (s * word_bits + q)
  word_called i zero gave s q h l k = absurd (omega arith)
  word_called i (suc n) (f', w, here, call, gave) s q h l k =
      let told = says i w f' call in
      ⊎_elim
      (λ (first : s < i + 1).
      let same : s ≡ i = omega arith in rw (same, here.1 0) (told.0 q k))
      (λ (later : i + 1 ≤ s).
      word_called (i + 1) n (subst (λ (e : F). IsFromFnResultFrom g e words (i + 1) n) told.1 gave) s q later
      (omega arith) k)
      (below_or_from s (i + 1))

-- so all are made, however many they are
pub all_called : {F : Type 0} {g : Mut F (ℕ × Unit {0}) ℕ} {f : F} {test : ℕ → Bool} {words : List ℕ} {n : ℕ}
    → ((k w : ℕ) (f' : F) → Called g f (k, tt) w f'
    → ((q : ℕ) → q < word_bits → bit w q ≡ test (k * word_bits + q)) × (f' ≡ f))
    → IsFromFnResult g f words n → MadeCells test (n * word_bits) words
all_called {F} {g} {f} {test} {words} {n} says gave =
    all_made test n words record {
      made = λ s q l k. word_called g f test words says 0 n gave.each s q (omega arith) (omega arith) k;
      rest = λ s l. get_or-eq_default words 0 (omega (arith, gave.long));
    }

-- ---- a part of the rows

-- what passes only where a cell of the rows is set makes a part of them
pub made_part : (test : ℕ → Bool) (end : ℕ) (words rows : List ℕ) → MadeCells test end words
    → ((n : ℕ) → So (test n) → So (marked rows n)) → Part words rows
made_part test end words rows m h = record {
  held = λ n p. ⊎_elim (λ l. h n (sym (m.inside n l) ∙ p)) (λ l. absurd (not_both p (m.outside n l)))
      (below_or_from n end);
}
