-- The search for the lowest tie in a word, and from user to user. The positions not yet tried are those of a word w:
-- they are cells of left, and every other cell of the word is known to fail. So the lowest position of w, where it
-- passes, is the lowest cell of all.
use Rattle.std.specs.Prelude.{ℕ, ◌+◌, ◌-◌, ◌*◌, ◌/◌, ◌≤◌, ◌<◌, ◌≡◌, Bool, false, not, ◌&&◌, List, eqb, true, Option, Some, None, is_some}
use Rattle.std.proofs.Common.{add-sub_of_le, div-add-mod', le-div_iff_mul-le, div-lt_iff_lt-mul, suc-mul, arith, sym, ap, ◌∙◌, ⊎_elim}
use Rattle.std.proofs.Math.Bool.{So, and_assoc}
use Rattle.bits.specs.Bit.{bit, word_bits}
use Rattle.bits.specs.Laws.Bit.{bit_of_zero}
use Rattle.bits.specs.Truth.{and_intro, and_left, and_right}
use Rattle.bits.specs.Counting.{Lowest}
use Rattle.bits.specs.Laws.Below.{below_or_from}
use Rattle.cell_rows.specs.Rows.{row_bits}
use Rattle.cell_rows.specs.CellPlaces.{marked}
use Rattle.cell_rows.specs.Laws.Width.{row_bits_pos, permission_below}
use Rattle.verdict.specs.NearCells.{dominates_in, tie_test, tie_at, Untried}
use Rattle.numbers.specs.declared.numbers.CellNo.{CellNo}
use Rattle.verdict.specs.ReductionVerdict.{LowestIn, NoneIn, FoundIn}

-- what holds of each position of a word holds of its cells
pub each_cell : (P : ℕ → Type 0) (i m : ℕ) → ((q : ℕ) → q < word_bits → P (i * word_bits + q)) → i * word_bits ≤ m
    → m < (i + 1) * word_bits → P m
each_cell P i m h from to = rw (add-sub_of_le from) at (h (m - i * word_bits) (omega arith))

-- none of a word's positions passes
none_in_word : (i : ℕ) (passes : ℕ → Bool) → ((q : ℕ) → q < word_bits → passes (i * word_bits + q) ≡ false)
    → NoneIn passes (i * word_bits) ((i + 1) * word_bits)
none_in_word i passes h = record { fails = λ m from to. each_cell (λ n. passes n ≡ false) i m h from to }

module _ (rows left : List ℕ) (users it i : ℕ) where
  -- all cells of left but the judged one itself
  pub all_untried : {w : ℕ} → ((q : ℕ) → q < word_bits → bit w q ≡ (marked left (i * word_bits + q)
      && not (eqb (i * word_bits + q) it)))
      → Untried rows left users it i w
  all_untried says =
      record {
        set = λ q l p. and_left (marked left (i * word_bits + q)) (not (eqb (i * word_bits + q) it)) (sym (says q l)
            ∙ p);
        other = λ q l p. and_right (marked left (i * word_bits + q)) (not (eqb (i * word_bits + q) it))
            (sym (says q l) ∙ p);
        tried = λ q l e.
            sym (and_assoc (marked left (i * word_bits + q)) (not (eqb (i * word_bits + q) it))
            (dominates_in rows left users it (i * word_bits + q)))
            ∙ ap (λ b. b && dominates_in rows left users it (i * word_bits + q)) (sym (says q l) ∙ e);
      }

  pub lowest_untried : {w q : ℕ} → Untried rows left users it i w → Lowest word_bits (bit w) q
      → So (dominates_in rows left users it (i * word_bits + q))
      → LowestIn (tie_at rows left users it) (i * word_bits) ((i + 1) * word_bits) (i * word_bits + q)
  lowest_untried {w} {q} u low p =
      record {
        begun = omega arith;
        within = omega (arith, low.within);
        holds = and_intro (marked left (i * word_bits + q)) (tie_test rows left users it (i * word_bits + q))
            (u.set q low.within low.holds)
            (and_intro (not (eqb (i * word_bits + q) it)) (dominates_in rows left users it (i * word_bits + q))
            (u.other q low.within low.holds) p);
        first = λ m from before. each_cell (λ n. n < i * word_bits + q → tie_at rows left users it n ≡ false) i m
            (λ r k less. u.tried r k (low.first r (omega arith))) from (omega (arith, low.within)) before;
      }

  pub none_untried : Untried rows left users it i 0 → NoneIn (tie_at rows left users it) (i * word_bits)
      ((i + 1) * word_bits)
  none_untried u = none_in_word i (tie_at rows left users it) (λ q l. u.tried q l (bit_of_zero q))

-- ---- from user to user

-- none of a user's cells passes
pub none_in_row : (u : ℕ) (test : ℕ → Bool) → ((n : ℕ) → n / row_bits ≡ u → test n ≡ false)
    → NoneIn test (u * row_bits) ((u + 1) * row_bits)
none_in_row u test each =
    record {
      fails = λ m begun within. each m (omega (
        arith,
        (le-div_iff_mul-le row_bits_pos).1 begun,
        (div-lt_iff_lt-mul {x = m} {y = u + 1} row_bits_pos).1 within,
      ));
    }

-- what no user has, none of their cells has
pub none_in_rows : {test : ℕ → Bool} (from to : ℕ) → ((u : ℕ) → from ≤ u → u < to → NoneIn test (u * row_bits)
    ((u + 1) * row_bits))
    → NoneIn test (from * row_bits) (to * row_bits)
none_in_rows from to each =
    record {
      fails = λ m begun within.
          (each (m / row_bits) ((le-div_iff_mul-le row_bits_pos).1 begun) ((div-lt_iff_lt-mul row_bits_pos).1 within)
          ).fails m (omega (arith, div-add-mod' m row_bits))
          (omega (arith, div-add-mod' m row_bits, permission_below m, suc-mul (m / row_bits) row_bits));
    }

pub none_then_none : {test : ℕ → Bool} {from middle to : ℕ} → NoneIn test from middle → NoneIn test middle to
    → NoneIn test from to
none_then_none {middle} earlier later =
    record {
      fails = λ m begun within. ⊎_elim (λ l. earlier.fails m begun l) (λ l. later.fails m l within)
          (below_or_from m middle);
    }

pub none_then_lowest : {test : ℕ → Bool} {from middle to n : ℕ} → from ≤ middle → NoneIn test from middle
    → LowestIn test middle to n
    → LowestIn test from to n
none_then_lowest {middle} order earlier low =
    record {
      begun = omega (arith, low.begun);
      within = low.within;
      holds = low.holds;
      first = λ m begun before. ⊎_elim (λ l. earlier.fails m begun l) (λ l. low.first m l before)
          (below_or_from m middle);
    }

-- the lowest of a range, in one that goes further
pub lowest_with_more : {test : ℕ → Bool} {from to end n : ℕ} → to ≤ end → LowestIn test from to n
    → LowestIn test from end n
lowest_with_more more low =
    record { begun = low.begun; within = omega (arith, low.within); holds = low.holds; first = low.first }

-- none, in a range that does not go further
pub none_before : {test : ℕ → Bool} {from to end : ℕ} → to ≤ end → NoneIn test from end → NoneIn test from to
none_before less none = record { fails = λ m begun within. none.fails m begun (omega (arith, within)) }

-- what is found is the lowest of another range, if the lowest of the one is that of the other
pub found_in : {test : ℕ → Bool} {from to low high : ℕ} (found : Option CellNo) → is_some found ≡ true
    → FoundIn test from to found → ((n : ℕ) → LowestIn test from to n → LowestIn test low high n)
    → FoundIn test low high found
found_in (Some n) e lowest further = further n.0 lowest
found_in None e fails further = cc

-- nothing is found, so none passes
pub none_found : {test : ℕ → Bool} {from to : ℕ} (found : Option CellNo) → is_some found ≡ false
    → FoundIn test from to found → NoneIn test from to
none_found (Some n) e lowest = cc
none_found None e fails = fails
