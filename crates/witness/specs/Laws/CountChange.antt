-- Counts changed at some cells, one after the other: changes at different cells join to one at all of them, and where
-- a count stays the same it may be said to be changed or not.
use Rattle.std.specs.Prelude.{ℕ, ◌+◌, ◌*◌, ◌/◌, ◌%◌, ◌<◌, ◌≡◌, refl, Bool, true, false, not, ◌&&◌, ◌||◌, cond, List, eqb, length, get_or, set}
use Rattle.std.proofs.Common.{arith, sym, ap, ◌∙◌, ⊎_elim, eq-eqb, eqb-true, length-set, get_or-set_same, get_or-set_other}
use Rattle.std.proofs.Math.Bool.{So, and-true, and-false, or-true, or-false}
use Rattle.std.proofs.lemmas.Bool.{eqb-false}
use Rattle.bits.specs.Truth.{passes_or_fails, same_truth, and_left}
use Rattle.bits.specs.Counting.{Lowest}
use Rattle.bits.specs.Bit.{bit, word_bits}
use Rattle.bits.specs.Laws.Bit.{bit_of_zero}
use Rattle.bits.specs.Word.{LowestDropped}
use Rattle.witness.specs.CountChange.{at_position, ChangedAt}

pub word_of_position : (m some n : ℕ) → So (at_position m some n) → n / word_bits ≡ m
word_of_position m some n p = eqb-true (n / word_bits) m (and_left (eqb (n / word_bits) m) (bit some (n % word_bits)) p)

pub none_at : (m n : ℕ) → at_position m 0 n ≡ false
none_at m n = ap (λ b. eqb (n / word_bits) m && b) (bit_of_zero (n % word_bits)) ∙ and-false (eqb (n / word_bits) m)

-- a count at another cell stays
pub not_changed : {at : ℕ → Bool} {to : ℕ → ℕ → ℕ} {before after : List ℕ} → ChangedAt at to before after
    → (n : ℕ) → at n ≡ false → get_or after n 0 ≡ get_or before n 0
not_changed c n f = rw f at (c.says n)

-- nothing is changed
pub nothing_changed : {at : ℕ → Bool} {to : ℕ → ℕ → ℕ} → ((n : ℕ) → at n ≡ false) → (counts : List ℕ)
    → ChangedAt at to counts counts
nothing_changed none counts = record { sized = refl; says = λ n. rw (none n) }

-- one count is changed
pub one_changed : {to : ℕ → ℕ → ℕ} (counts : List ℕ) (k : ℕ) → k < length counts
    → ChangedAt (λ n. eqb n k) to counts (set counts k (to k (get_or counts k 0)))
one_changed {to} counts k inside = record {
  sized = length-set counts k (to k (get_or counts k 0));
  says = λ n. ⊎_elim
      (λ e. rw (eqb-true n k e, eq-eqb k k refl)
      (get_or-set_same counts k (to k (get_or counts k 0)) 0 inside))
      (λ f. rw f (get_or-set_other counts k n (to k (get_or counts k 0)) 0 (eqb-false n k f)))
      (passes_or_fails (eqb n k));
}

-- counts are changed at some cells, and then at others
pub then_changed : {first then all : ℕ → Bool} {to : ℕ → ℕ → ℕ} {before middle after : List ℕ}
    → ChangedAt first to before middle → ChangedAt then to middle after
    → ((n : ℕ) → So (then n) → first n ≡ false) → ((n : ℕ) → all n ≡ (first n || then n))
    → ChangedAt all to before after
then_changed {first} {then} {before = before} {middle} earlier later apart joined = record {
  sized = later.sized ∙ earlier.sized;
  says = λ n. later.says n ∙ ⊎_elim
      (λ (p : So (then n)). let same : get_or middle n 0 ≡ get_or before n 0 = not_changed earlier n (apart n p) in
      rw (joined n, p, or-true (first n), same))
      (λ (f : then n ≡ false). rw (joined n, f, or-false (first n)) (earlier.says n))
      (passes_or_fails (then n));
}

-- the same said of more cells, where no more is changed
pub changed_as : {at wider : ℕ → Bool} {to said : ℕ → ℕ → ℕ} {before after : List ℕ}
    → ((n : ℕ) → So (at n) → So (wider n) × ((count : ℕ) → to n count ≡ said n count))
    → ((n : ℕ) → at n ≡ false → So (wider n) → (count : ℕ) → said n count ≡ count)
    → ChangedAt at to before after → ChangedAt wider said before after
changed_as {at} {wider} {to} {said} {before} same none c = record {
  sized = c.sized;
  says = λ n. c.says n ∙ ⊎_elim (λ (p : So (at n)). rw (p, (same n p).0) ((same n p).1 (get_or before n 0)))
      (λ f. rw f (sym (unchanged n f))) (passes_or_fails (at n));
}
  where
    unchanged : (n : ℕ) → at n ≡ false → cond (wider n) (said n (get_or before n 0)) (get_or before n 0)
        ≡ get_or before n 0
    unchanged n f = ⊎_elim (λ (p : So (wider n)). rw p (none n f p (get_or before n 0))) (λ g. rw g)
        (passes_or_fails (wider n))

-- ---- one after the other

-- of the cells whose counts are to be changed, some are still to come
pub record Changing (all coming : ℕ → Bool) (to : ℕ → ℕ → ℕ) (before now : List ℕ) : Type 0 where
  pub among : (n : ℕ) → So (coming n) → So (all n)
  pub done : ChangedAt (λ n. all n && not (coming n)) to before now

not_itself : (b : Bool) → (b && not b) ≡ false
not_itself true = refl
not_itself false = refl

pub change_starts : (all : ℕ → Bool) (to : ℕ → ℕ → ℕ) (before : List ℕ)
    → Changing all all to before before
change_starts all to before =
    record { among = λ n p. p; done = nothing_changed (λ n. not_itself (all n)) before }

module _ {all coming : ℕ → Bool} {to : ℕ → ℕ → ℕ} {before now : List ℕ}
    (going : Changing all coming to before now) where
  -- those to come are as they were
  pub still_to_come : (n : ℕ) → So (coming n) → get_or now n 0 ≡ get_or before n 0
  still_to_come n p = not_changed going.done n (rw p (and-false (all n)))

  pub change_goes_on : {here rest : ℕ → Bool} {after : List ℕ} → ((n : ℕ) → So (here n) → So (coming n))
      → ((n : ℕ) → rest n ≡ (coming n && not (here n))) → ChangedAt here to now after
      → Changing all rest to before after
  change_goes_on {here} {rest} within left changed = record {
    among = λ n p. going.among n (and_left (coming n) (not (here n)) (sym (left n) ∙ p));
    done = then_changed going.done changed (λ n p. rw (within n p) (and-false (all n))) joined;
  }
    where
      joined : (n : ℕ) → (all n && not (rest n)) ≡ ((all n && not (coming n)) || here n)
      joined n =
          ⊎_elim (λ (p : So (here n)). rw (left n, within n p, p, going.among n (within n p)))
          (λ (f : here n ≡ false). rw (left n, f, and-true (coming n), or-false (all n && not (coming n))))
          (passes_or_fails (here n))

  pub change_ends : ((n : ℕ) → coming n ≡ false) → ChangedAt all to before now
  change_ends none = record {
    sized = going.done.sized;
    says = λ n. rw (none n, and-true (all n)) at (going.done.says n);
  }

-- ---- at the positions of a word

-- the lowest position dropped
pub lowest_at : (m w : ℕ) {low : ℕ} → Lowest word_bits (bit w) low → So (at_position m w (m * word_bits + low))
lowest_at m w {low} is-low =
    let word : (m * word_bits + low) / word_bits ≡ m = omega (arith, is-low.within) in
    let position : (m * word_bits + low) % word_bits ≡ low = omega (arith, is-low.within) in
    rw (word, position, eq-eqb m m refl) is-low.holds

pub at_dropped : (m : ℕ) {w low rest : ℕ} → Lowest word_bits (bit w) low → LowestDropped w rest → (n : ℕ)
    → at_position m rest n ≡ (at_position m w n && not (eqb n (m * word_bits + low)))
at_dropped m {w} {low} {rest} is-low dropped n = ⊎_elim here elsewhere (passes_or_fails (eqb (n / word_bits) m))
  where
    here : So (eqb (n / word_bits) m) → at_position m rest n ≡ (at_position m w n && not (eqb n (m * word_bits + low)))
    here e =
        ap (λ b. b && bit rest (n % word_bits)) e
        ∙ dropped.others is-low (n % word_bits)
        ∙ ap (λ b. bit w (n % word_bits) && not b) same_position
        ∙ sym (ap (λ b. (b && bit w (n % word_bits)) && not (eqb n (m * word_bits + low))) e)
      where
        same_position : eqb (n % word_bits) low ≡ eqb n (m * word_bits + low)
        same_position =
            let word : n / word_bits ≡ m = eqb-true (n / word_bits) m e in
            same_truth (eqb (n % word_bits) low) (eqb n (m * word_bits + low))
            (λ p. eq-eqb n (m * word_bits + low) (omega (arith, eqb-true (n % word_bits) low p)))
            (λ p. eq-eqb (n % word_bits) low (omega (arith, is-low.within, eqb-true n (m * word_bits + low) p)))

    elsewhere : eqb (n / word_bits) m ≡ false → at_position m rest n ≡ (at_position m w n
        && not (eqb n (m * word_bits + low)))
    elsewhere f =
        ap (λ b. b && bit rest (n % word_bits)) f
        ∙ sym (ap (λ b. (b && bit w (n % word_bits)) && not (eqb n (m * word_bits + low))) f)

-- the count at the lowest position is changed, and the position dropped
pub position_changed : {all : ℕ → Bool} {to : ℕ → ℕ → ℕ} (m : ℕ) {w low rest : ℕ} {before now : List ℕ}
    → Changing all (at_position m w) to before now → Lowest word_bits (bit w) low → LowestDropped w rest
    → m * word_bits + low < length now
    → Changing all (at_position m rest) to before (set now (m * word_bits + low)
    (to (m * word_bits + low) (get_or now (m * word_bits + low) 0)))
position_changed m {w} {low} {now = now} going is-low dropped inside =
    change_goes_on going (λ n e. rw (eqb-true n (m * word_bits + low) e) (lowest_at m w is-low))
    (at_dropped m is-low dropped) (one_changed now (m * word_bits + low) inside)
