-- What a machine's instructions on a word say of its positions, for a word of any width k: the count of ones, the
-- zeros below the lowest one, the word with its lowest one dropped, and the tests that compare a word with an `and`.
-- A step down to the half is a step up in positions.
use Rattle.std.specs.Prelude.{◌≡◌, false, not, ◌&&◌, ℕ, zero, suc, ◌-◌, ◌/◌, ◌%◌, ◌+◌, ◌^◌, ◌<◌, eqb}
use Rattle.std.proofs.Common.{sym, ap, ◌∙◌, ⊎_elim, suc-le-suc, pow-suc, lt_of_le_of_lt, zero-lt-suc, arith, eq-eqb, eqb-true}
use Rattle.std.proofs.Math.Bool.{So, and-true, and_self}
use Rattle.std.proofs.Math.Dec.{eqb-suc-zero, eqb-suc-suc}
use Rattle.std.specs.Int.Bits.{bit_and}
use Rattle.std.proofs.lemmas.Nat.{and_le_l, and_le_r, ones-le}
use Rattle.std.specs.Int.Count.{ones, ones_step, count_trailing_zeros}
use Rattle.spec.specs.Vocabulary.{every_below}
use Rattle.bits.specs.Truth.{implies, implies_intro, and_absorbs, and_right, not_both, same_truth}
use Rattle.bits.specs.Counting.{some_below, one_if, count_below, Lowest}
use Rattle.bits.specs.Laws.Below.{some_below_intro, every_below_intro, every_below_elim}
use Rattle.bits.specs.Laws.Lowest.{lowest_ext, lowest_at_zero, lowest_next}
use Rattle.bits.specs.Laws.Count.{count_below_ext, count_below_first}
use Rattle.bits.specs.Laws.CountJoin.{count_below_without}
use Rattle.bits.specs.Bit.{bit, word_bits}
use Rattle.bits.specs.Word.{LowestDropped}
use Rattle.bits.specs.Laws.Bit.{bit_first, bit_next, first_digit, even_or_odd, bit_of_zero, bit_ext, bit_of_and}

-- ---- the count of ones

pub ones_count : (k n : ℕ) → n < 2 ^ k → ones n ≡ count_below k (bit n)
unfolding count_below
ones_count zero n h = omega (arith, ones-le 0 n h)
ones_count (suc k) n h =
    omega (
      arith,
      ones_step n,
      first_digit n,
      ones_count k (n / 2) (omega (arith, pow-suc 2 k)),
      count_below_first k (bit n),
      count_below_ext k (λ p. bit n (suc p)) (bit (n / 2)) (λ p l. bit_next n p),
    )

-- ---- the lowest one

pub some_bit_pos : (n p : ℕ) → So (bit n p) → 0 < n
some_bit_pos zero p e = absurd (not_both e (bit_of_zero p))
some_bit_pos (suc n) p e = zero-lt-suc n

pub lowest_trailing : (k n : ℕ) → 0 < n → n < 2 ^ k → Lowest k (bit n) (count_trailing_zeros k n)
unfolding count_trailing_zeros
lowest_trailing zero n p h = absurd (omega arith)
lowest_trailing (suc k) n p h =
    ⊎_elim
    (λ (e : n % 2 ≡ 0). rw e (lowest_next k (bit n) (bit_first n ∙ rw e)
    (lowest_ext (λ j l. sym (bit_next n j)) (lowest_trailing k (n / 2) (omega arith) (omega (arith, pow-suc 2 k))))))
    (λ (e : n % 2 ≡ 1). rw e (lowest_at_zero (bit_first n ∙ rw e)))
    (even_or_odd n)

-- ---- the lowest one dropped

-- n - 1 differs from n in the positions up to the lowest, i, of which n has i alone
below_lowest : (i n q : ℕ) → 0 < n → So (bit n i) → ((j : ℕ) → j < i → bit n j ≡ false)
    → (bit n q && bit (n - 1) q) ≡ (bit n q && not (eqb q i))
below_lowest zero n zero pos p h =
    let odd : n % 2 ≡ 1 = first_digit n ∙ ap one_if p in
    let even : (n - 1) % 2 ≡ 0 = omega arith in
    rw (bit_first (n - 1), even)
below_lowest zero n (suc q) pos p h =
    let odd : n % 2 ≡ 1 = first_digit n ∙ ap one_if p in
    let half : (n - 1) / 2 ≡ n / 2 = omega arith in
    rw (bit_next (n - 1) q, half, bit_next n q, eqb-suc-zero q) (and_self (bit (n / 2) q)
    ∙ sym (and-true (bit (n / 2) q)))
below_lowest (suc i) n zero pos p h = rw (h 0 (zero-lt-suc i))
below_lowest (suc i) n (suc q) pos p h =
    let even : n % 2 ≡ 0 = first_digit n ∙ ap one_if (h 0 (zero-lt-suc i)) in
    let half : (n - 1) / 2 ≡ n / 2 - 1 = omega arith in
    rw (bit_next (n - 1) q, half, bit_next n q, eqb-suc-suc q i)
    (below_lowest i (n / 2) q (omega arith) (sym (bit_next n i) ∙ p) (λ j l. sym (bit_next n j)
    ∙ h (suc j) (suc-le-suc l)))

pub bit_drop_lowest : (k n : ℕ) {i : ℕ} → Lowest k (bit n) i → (q : ℕ) → bit (bit_and n (n - 1)) q ≡ (bit n q
    && not (eqb q i))
bit_drop_lowest k n {i} w q =
    bit_of_and n (n - 1) q ∙ below_lowest i n q (some_bit_pos n i w.holds) w.holds w.first

pub drop_lowest_less : (n : ℕ) → 0 < n → bit_and n (n - 1) < n
drop_lowest_less n h = omega (arith, and_le_r n (n - 1))

-- a loop that drops the lowest one takes as many turns as there are ones
pub dropped_count : (w r : ℕ) → 0 < w → w < 2 ^ word_bits → LowestDropped w r
    → count_below word_bits (bit w) ≡ count_below word_bits (bit r) + 1
dropped_count w r p h d =
    let i = count_trailing_zeros word_bits w in
    let low = lowest_trailing word_bits w p h in
    rw (count_below_ext word_bits (bit r) (λ q. bit w q && not (eqb q i)) (λ q l. d.others low q))
    (count_below_without word_bits (bit w) low.within low.holds)

-- ---- tests on whole words

pub some_bit : (k n : ℕ) → 0 < n → n < 2 ^ k → So (some_below k (bit n))
some_bit k n p h = let low = lowest_trailing k n p h in some_below_intro k (bit n) low.within low.holds

pub within_test : (k a b : ℕ) → a < 2 ^ k → eqb (bit_and a b) a ≡ every_below k (λ p. implies (bit a p) (bit b p))
within_test k a b h =
    same_truth (eqb (bit_and a b) a) (every_below k (λ p. implies (bit a p) (bit b p)))
    (λ e. every_below_intro k (λ p. implies (bit a p) (bit b p)) (λ p l. implies_intro (bit a p) (bit b p) (λ q.
    and_right (bit a p) (bit b p) (sym (bit_of_and a b p) ∙ ap (λ (m : ℕ). bit m p) (eqb-true (bit_and a b) a e) ∙ q))))
    (λ e. eq-eqb (bit_and a b) a (bit_ext k (bit_and a b) a (lt_of_le_of_lt (and_le_l a b) h) h (λ p l.
    bit_of_and a b p ∙ and_absorbs (bit a p) (bit b p) (every_below_elim k (λ p. implies (bit a p) (bit b p)) e l))))
