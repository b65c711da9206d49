-- The walk that finds the grant with the fewest partners: the cells passed give the grants seen, each with the count
-- of those that fit it. Of a word the lowest position is passed next.
use Rattle.std.specs.Prelude.{ℕ, ◌+◌, ◌*◌, ◌/◌, ◌%◌, ◌≤◌, ◌<◌, ◌≡◌, refl, false, not, ◌&&◌, List, ◌∷◌, [], map, eqb, length, get_or, Option, Some}
use Rattle.std.proofs.Common.{add-zero, add-one, arith, sym, ap, ◌∙◌, ⊎_elim, eq-eqb, ne_eqb}
use Rattle.std.proofs.Math.Bool.{So, and-true, and-false}
use Rattle.std.proofs.lemmas.List.{map-append}
use Rattle.spec.specs.Vocabulary.{least}
use Rattle.spec.specs.Limits.{user_limit}
use Rattle.spec.specs.Sheet.{Sheet, Grant}
use Rattle.spec.specs.Fit.{partners}
use Rattle.bits.specs.Truth.{not_both}
use Rattle.bits.specs.Counting.{Lowest, Skipped}
use Rattle.bits.specs.Laws.Below.{below_or_from}
use Rattle.bits.specs.Bit.{bit, word_bits}
use Rattle.bits.specs.Laws.Bit.{bit_of_zero}
use Rattle.bits.specs.Word.{LowestDropped}
use Rattle.lists.specs.PassingBelow.{passing_below, passing_until, passing_next}
use Rattle.cell_rows.specs.Rows.{row_words, row_bits}
use Rattle.cell_rows.specs.Laws.Width.{rows_cells}
use Rattle.witness.specs.declared.choice.Choice.{Choice}
use Rattle.cells.specs.CellSets.{cell_grants}
use Rattle.cell_rows.specs.CellPlaces.{grant_of, marked, Shown, Part}
use Rattle.cells.specs.Laws.CellList.{cell_grants_by_cell}
use Rattle.fit.specs.Laws.FitWord.{marked_in_word}
use Rattle.verdict.specs.Laws.Near.{partners_one_fewer}
use Rattle.witness.specs.Counts.{Counted}
use Rattle.witness.specs.Laws.Counts.{counted_grants}
use Rattle.witness.specs.WitnessChoice.{no_choice, better_of, ChoiceWithin, Fewest, Least, none_seen}
use Rattle.witness.specs.WitnessChoice.{one_more_seen, none_standing, better_standing}

-- how many partners a grant has among those of left
abbrev pub partner_count : Sheet → List ℕ → Grant → ℕ
partner_count sheet left g = length (partners sheet (cell_grants sheet left) g)

-- the best of the cells below n
pub record Walked (rows left : List ℕ) (users : ℕ) (best : Option Choice) (n : ℕ) : Type 0 where
  pub standing : ChoiceWithin left (users * row_bits) best
  pub so_far :
      (sheet : Sheet) → Shown rows users sheet → Part left rows
      → Least (partner_count sheet left) (map grant_of (passing_below n (marked left))) best

module _ (rows left : List ℕ) (users : ℕ) where
  pub walk_starts : Walked rows left users no_choice 0
  unfolding passing_below
  walk_starts = record {
    standing = none_standing left (users * row_bits);
    so_far = λ sheet shown part. none_seen (partner_count sheet left);
  }

  module _ (best : Option Choice) (n : ℕ) (walked : Walked rows left users best n) where
    -- cells that are not set are passed
    pub walk_passes : (m : ℕ) → n ≤ m → Skipped (marked left) n m → Walked rows left users best m
    walk_passes m l skipped = record {
      standing = walked.standing;
      so_far = λ sheet shown part. rw (passing_until n m (marked left) l skipped) (walked.so_far sheet shown part);
    }

    pub walk_goes_on : users ≤ user_limit → (counts : List ℕ) → Counted rows left users counts → n < users * row_bits
        → So (marked left n)
        → Walked rows left users (Some (better_of best n (get_or counts n 0))) (n + 1)
    walk_goes_on few counts counted inside p = record {
      standing = better_standing left (users * row_bits) best walked.standing n (get_or counts n 0) inside p;
      so_far = λ sheet shown part.
          rw (add-one n, passing_next n (marked left) p, map-append grant_of (passing_below n (marked left)) (n ∷ []))
          (one_more_seen (partner_count sheet left) (map grant_of (passing_below n (marked left))) n (get_or counts n 0)
          (counted_grants few shown part counted n inside p ∙ partners_one_fewer shown part n inside p) best
          (walked.so_far sheet shown part));
    }

    pub walk_ends : n ≡ users * row_bits → Fewest rows left users best
    walk_ends e = record {
      standing = walked.standing;
      is_fewest = λ sheet shown part.
          ap (least (partner_count sheet left)) (cell_grants_by_cell shown part)
          ∙ (rw e at (walked.so_far sheet shown part).first);
    }

-- ---- a word

-- the cells of word i are passed below a position, and w has those from there on
pub record InWord (rows left : List ℕ) (users i w : ℕ) (best : Option Choice) : Type 0 where
  pub from : ℕ
  pub not_past : from ≤ word_bits
  pub done : (q : ℕ) → q < from → bit w q ≡ false
  pub ahead : (q : ℕ) → from ≤ q → bit w q ≡ bit (get_or left i 0) q
  pub walked : Walked rows left users best (i * word_bits + from)

module _ (rows left : List ℕ) (users i : ℕ) where
  pub word_starts : (best : Option Choice) → Walked rows left users best (i * word_bits) → InWord rows left users i
      (get_or left i 0) best
  word_starts best walked = record {
    from = 0;
    not_past = omega arith;
    done = λ q l. absurd (omega arith);
    ahead = λ q l. refl;
    walked = rw (add-zero (i * word_bits)) walked;
  }

  -- no cell of the word is set between the walk and a position below which w has none
  skipped_in_word : (w : ℕ) (best : Option Choice) (in_word : InWord rows left users i w best) (end : ℕ) → end ≤ word_bits
      → ((q : ℕ) → q < end → bit w q ≡ false) → Skipped (marked left) (i * word_bits + in_word.from)
      (i * word_bits + end)
  skipped_in_word w best in_word end l none m k h =
      let word : m / word_bits ≡ i = omega arith in
      let position : i * word_bits + m % word_bits ≡ m = omega arith in
      rw word (sym (in_word.ahead (m % word_bits) (omega arith)) ∙ none (m % word_bits) (omega arith))

  pub word_goes_on : {w low rest : ℕ} (best : Option Choice) → InWord rows left users i w best → Lowest word_bits (bit w) low
      → LowestDropped w rest
      → users ≤ user_limit → i < users * row_words → (counts : List ℕ) → Counted rows left users counts
      → InWord rows left users i rest (Some (better_of best (i * word_bits + low) (get_or counts (i * word_bits + low) 0)))
  word_goes_on {w} {low} {rest} best in_word is-low dropped few inside counts counted = record {
    from = low + 1;
    not_past = omega (arith, is-low.within);
    done = λ q l. dropped.others is-low q ∙ ⊎_elim
        (λ k. ap (λ b. b && not (eqb q low)) (is-low.first q k))
        (λ k. ap (λ b. bit w q && not b) (eq-eqb q low (omega arith)) ∙ and-false (bit w q))
        (below_or_from q low);
    ahead = λ q l.
        dropped.others is-low q ∙ ap (λ b. bit w q && not b) (ne_eqb q low (omega arith)) ∙ and-true (bit w q)
        ∙ in_word.ahead q (omega (arith, not_below));
    walked = rw next (walk_goes_on rows left users best (i * word_bits + low)
        (walk_passes rows left users best (i * word_bits + in_word.from) in_word.walked (i * word_bits + low)
        (omega (arith, not_below))
        (skipped_in_word w best in_word low (omega (arith, is-low.within)) is-low.first))
        few counts counted (omega (arith, is-low.within, rows_cells users))
        (marked_in_word left i low is-low.within
        ∙ sym (in_word.ahead low not_below) ∙ is-low.holds));
  }
    where
      not_below : in_word.from ≤ low
      not_below = ⊎_elim (λ l. absurd (not_both is-low.holds (in_word.done low l))) (λ l. l)
          (below_or_from low in_word.from)

      next : i * word_bits + (low + 1) ≡ i * word_bits + low + 1
      next = omega arith

  pub word_ends : (best : Option Choice) → InWord rows left users i 0 best → Walked rows left users best ((i + 1) * word_bits)
  word_ends best in_word =
      let end : (i + 1) * word_bits ≡ i * word_bits + word_bits = omega arith in
      rw end (walk_passes rows left users best (i * word_bits + in_word.from) in_word.walked
      (i * word_bits + word_bits) (omega (arith, in_word.not_past))
      (skipped_in_word 0 best in_word word_bits (omega arith) (λ q l. bit_of_zero q)))
