-- Which classes are open to a grant: those not below the next try all of whose members fit it, so that the lowest of
-- them is the machine's choice.
use Rattle.std.specs.Prelude.{ℕ, ◌+◌, ◌*◌, ◌-◌, ◌/◌, ◌%◌, ◌≤◌, ◌<◌, ◌≡◌, refl, Bool, true, false, not, ◌&&◌, List, eqb, ltb, get_or}
use Rattle.std.proofs.Common.{⊎_elim, add-zero, zero-add, add-one, arith, lt-ltb, le-ltb, le-leb}
use Rattle.std.proofs.Math.Bool.{So, and-false}
use Rattle.std.proofs.Math.Option
use Rattle.std.proofs.lemmas.Bool.{lt-leb}
use Rattle.spec.specs.Vocabulary.{every_below, lowest_below}
use Rattle.bits.specs.Truth.{implies}
use Rattle.bits.specs.Laws.Below.{below_or_from, last_or_below, every_below_ext, every_below_not}
use Rattle.bits.specs.Laws.Lowest.{lowest_below_intro, lowest_below_none_intro}
use Rattle.bits.specs.Bit.{bit, word_bits}
use Rattle.marks.specs.declared.marks.Marks.{Marks}
use Rattle.marks.specs.Marks.{kernel_words, mark_limit, marked}
use Rattle.marks.specs.Laws.Mark.{marked_low, marked_high}
use Rattle.moves.specs.FitTable.{fit_in}
use Rattle.moves.specs.Gathered.{member, Gathered}
use Rattle.bits.specs.Laws.Cut.{some_below_cut}
use Rattle.moves.specs.Laws.Placed.{joins_unless_apart}
use Rattle.moves.specs.OpenTo.{joinable, open_to, row, class_row, all_fit}

-- marks are read from the word that has their position, whichever way a table has the two words of a row
marked_words : (m : Marks) (word : ℕ → ℕ) → m.low ≡ word 0 → m.high ≡ word 1 → {i : ℕ} → i < mark_limit
    → marked m i ≡ bit (word (i / word_bits)) (i % word_bits)
marked_words m word low high {i} l =
    ⊎_elim
    (λ (k : i < word_bits).
    let first : i / word_bits ≡ 0 = omega arith in
    let place : i % word_bits ≡ i = omega arith in
    rw (marked_low m k, first, place, low))
    (λ (k : word_bits ≤ i).
    let second : i / word_bits ≡ 1 = omega arith in
    let place : i % word_bits ≡ i - word_bits = omega arith in
    rw (marked_high m k, second, place, high))
    (below_or_from i word_bits)

-- a class's words are within a grant's just where all members of the class fit the grant
pub within_row : (table members : List ℕ) (d c : ℕ)
    → every_below mark_limit (λ p. implies (marked (class_row members c) p) (marked (row table d) p))
    ≡ all_fit table members d c
within_row table members d c =
    every_below_ext mark_limit (λ p. implies (marked (class_row members c) p) (marked (row table d) p))
    (λ i. implies (member members c i) (fit_in table d i)) (λ i l.
    rw (
      marked_words (class_row members c) (λ j. get_or members (j * mark_limit + c) 0) (rw zero-add) refl l,
      marked_words (row table d) (λ j. get_or table (d * kernel_words + j) 0) (rw add-zero) refl l,
    ))

-- a class is open to grant d just where the grant can be placed in it
pub open_joinable : (table : List ℕ) {classes members : List ℕ} (d next : ℕ) → d ≤ mark_limit
    → Gathered classes d members
    → (c : ℕ) → c < mark_limit → open_to table members d next c ≡ joinable table classes d next c
open_joinable table {classes} {members} d next within g c k =
    rw (
      every_below_ext mark_limit (λ i. implies (member members c i) (fits i)) (λ i. implies (in_class i) (fits i))
          (λ i l. rw (g.has c i k l)),
      every_below_not mark_limit (λ i. implies (in_class i) (fits i)),
      joins_unless_apart (fit_in table) classes d d c,
      some_below_cut mark_limit d (λ i. not (implies (in_class i) (fits i))) (λ i. not (fits i)
          && eqb (get_or classes i 0) c) within
          (λ i l. rw (lt-ltb i d l) (unmet (eqb (get_or classes i 0) c) (fits i))) (λ i l. rw (le-ltb i d l)),
    )
  where
    fits : ℕ → Bool
    fits i = fit_in table d i

    in_class : ℕ → Bool
    in_class i = ltb i d && eqb (get_or classes i 0) c

    unmet : (a b : Bool) → not (implies a b) ≡ (not b && a)
    unmet true true = refl
    unmet true false = refl
    unmet false true = refl
    unmet false false = refl

-- none is open below the next try
pub none_open : (table members : List ℕ) (d next : ℕ) {c : ℕ} → c < next → open_to table members d next c ≡ false
none_open table members d next {c} l = rw (lt-leb next c l)

-- the classes from the next try on are looked through, and those before c are not open
module _ (table members : List ℕ) (d next end : ℕ) {c : ℕ} (passed : (q : ℕ) → q < c → open_to table members d next q
    ≡ false) where
  -- class c is open: it is the lowest
  pub opens_at : next ≤ c → c < end → So (all_fit table members d c)
      → c ≡ Option.get_or (lowest_below end (open_to table members d next)) end
  opens_at k l fits =
      rw (lowest_below_intro end (open_to table members d next)
      (record { within = l; holds = rw (le-leb next c k) fits; first = λ j m. passed j m }))

  -- it is not: one more is passed
  pub passes_at : all_fit table members d c ≡ false → (q : ℕ) → q < c + 1 → open_to table members d next q ≡ false
  passes_at shut q l =
      ⊎_elim (λ (e : q ≡ c). rw (e, shut, and-false)) (λ k. passed q k) (last_or_below (rw (add-one c) at l))

  -- all below the end are passed
  pub opens_nowhere : end ≤ c → end ≡ Option.get_or (lowest_below end (open_to table members d next)) end
  opens_nowhere l = rw (lowest_below_none_intro end (open_to table members d next) (λ q k. passed q (omega arith)))
