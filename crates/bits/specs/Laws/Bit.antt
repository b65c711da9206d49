-- The positions of a number, of any width: what each operation on numbers does to them. The lowest position tells the
-- remainder by 2, and the others are those of the half, so a law holds at each position by the same law at the half
-- (`bit_first`, `bit_next`).
use Rattle.std.specs.Prelude.{◌≡◌, refl, ◌⊎◌, Bool, false, not, ◌&&◌, ◌||◌, ℕ, zero, suc, ◌+◌, ◌-◌, ◌*◌, ◌/◌, ◌%◌, ◌^◌, ◌≤◌, ◌<◌, eqb, ltb}
use Rattle.std.proofs.Common.{sym, ap, ◌∙◌, inl, inr, ⊎_elim, suc-le-suc, pow-suc, div-one, mod-lt, mod-eq_of_lt, one-mul, lt_of_lt_of_le, le_of_suc-le-suc, not-suc-le-zero, zero-lt-suc, arith, one-add, lt-ltb, le-ltb, pow_pos, pow_mono, shr-shr}
use Rattle.std.proofs.Math.Bool.{So}
use Rattle.std.proofs.Math.Nat.{zero-div, div-eq_of_lt, mul-mod_left, sub-zero}
use Rattle.std.proofs.Math.Dec.{eqb-zero-suc, eqb-suc-zero, eqb-suc-suc}
use Rattle.std.proofs.Math.Pow.{pow-lt, ones_lt}
use Rattle.std.proofs.lemmas.Nat.{shl-shr, and_shr, or_shr, and_mod, or_mod}
use Rattle.std.specs.Int.Bits.{bit_and, bit_or, shifted_half, shifted_even}
use Rattle.bits.specs.Truth.{not_both}
use Rattle.bits.specs.Bit.{bit}
use Rattle.bits.specs.Counting.{one_if}
use Rattle.bits.specs.Laws.Below.{below_or_from}

-- ---- position by position

pub bit_first : (n : ℕ) → bit n 0 ≡ eqb (n % 2) 1
unfolding bit
bit_first n = rw (div-one n)

pub bit_next : (n p : ℕ) → bit n (suc p) ≡ bit (n / 2) p
unfolding bit
bit_next n p = rw (← one-add p, ← shr-shr n 1 p)

pub even_or_odd : (n : ℕ) → (n % 2 ≡ 0) ⊎ (n % 2 ≡ 1)
even_or_odd n = pick (n % 2) (mod-lt n (zero-lt-suc 1))
  where
    pick : (d : ℕ) → d < 2 → (d ≡ 0) ⊎ (d ≡ 1)
    pick zero l = inl refl
    pick (suc zero) l = inr refl
    pick (suc (suc d)) l = absurd (omega arith)

-- the remainder is what position 0 counts
pub first_digit : (n : ℕ) → n % 2 ≡ one_if (bit n 0)
first_digit n = rw (bit_first n) (⊎_elim (λ e. rw e) (λ e. rw e) (even_or_odd n))

pub bit_of_zero : (p : ℕ) → bit 0 p ≡ false
unfolding bit
bit_of_zero p = rw (zero-div (2 ^ p))

-- past the width
pub bit_above : (k n : ℕ) → n < 2 ^ k → {p : ℕ} → k ≤ p → bit n p ≡ false
unfolding bit
bit_above k n h {p} l = rw (div-eq_of_lt (lt_of_lt_of_le h (pow_mono l)))

pub bit_within : (k n : ℕ) → n < 2 ^ k → {p : ℕ} → So (bit n p) → p < k
bit_within k n h {p} e = ⊎_elim (λ l. l) (λ l. absurd (not_both e (bit_above k n h l))) (below_or_from p k)

-- two numbers with the same positions below the width are one
pub bit_ext : (k a b : ℕ) → a < 2 ^ k → b < 2 ^ k → ((p : ℕ) → p < k → bit a p ≡ bit b p) → a ≡ b
bit_ext zero a b ha hb h = omega arith
bit_ext (suc k) a b ha hb h =
    let digits : a % 2 ≡ b % 2 = first_digit a ∙ ap one_if (h 0 (zero-lt-suc k)) ∙ sym (first_digit b) in
    let halves : a / 2 ≡ b / 2 =
    bit_ext k (a / 2) (b / 2) (omega (arith, pow-suc 2 k)) (omega (arith, pow-suc 2 k))
    (λ p l. sym (bit_next a p) ∙ h (suc p) (suc-le-suc l) ∙ bit_next b p) in
    omega arith

-- ---- and, or, xor: each works on every position apart

-- what holds of all four pairs of digits
on_digits : (P : ℕ → ℕ → Type 0) → P 0 0 → P 0 1 → P 1 0 → P 1 1 → (x y : ℕ) → x < 2 → y < 2 → P x y
on_digits P a b c d zero zero l m = a
on_digits P a b c d zero (suc zero) l m = b
on_digits P a b c d zero (suc (suc y)) l m = absurd (omega arith)
on_digits P a b c d (suc zero) zero l m = c
on_digits P a b c d (suc zero) (suc zero) l m = d
on_digits P a b c d (suc zero) (suc (suc y)) l m = absurd (omega arith)
on_digits P a b c d (suc (suc x)) y l m = absurd (omega arith)

module _ (op : ℕ → ℕ → ℕ) (join : Bool → Bool → Bool)
    (shifted : (a b k : ℕ) → op a b / 2 ^ k ≡ op (a / 2 ^ k) (b / 2 ^ k))
    (low : (a b k : ℕ) → op a b % 2 ^ k ≡ op (a % 2 ^ k) (b % 2 ^ k))
    (digits : (x y : ℕ) → x < 2 → y < 2 → eqb (op x y) 1 ≡ join (eqb x 1) (eqb y 1)) where
  bit_of_op : (a b p : ℕ) → bit (op a b) p ≡ join (bit a p) (bit b p)
  unfolding bit
  bit_of_op a b p =
      rw (shifted a b p, low (a / 2 ^ p) (b / 2 ^ p) 1)
      (digits (a / 2 ^ p % 2) (b / 2 ^ p % 2) (mod-lt (a / 2 ^ p) (zero-lt-suc 1)) (mod-lt (b / 2 ^ p) (zero-lt-suc 1)))

pub bit_of_and : (a b p : ℕ) → bit (bit_and a b) p ≡ (bit a p && bit b p)
bit_of_and =
    bit_of_op bit_and ◌&&◌ and_shr and_mod
    (on_digits (λ x y. eqb (bit_and x y) 1 ≡ (eqb x 1 && eqb y 1)) refl refl refl refl)

pub bit_of_or : (a b p : ℕ) → bit (bit_or a b) p ≡ (bit a p || bit b p)
bit_of_or =
    bit_of_op bit_or ◌||◌ or_shr or_mod
    (on_digits (λ x y. eqb (bit_or x y) 1 ≡ (eqb x 1 || eqb y 1)) refl refl refl refl)

-- ---- not, below the width

bit_of_rest : (k a b : ℕ) → a + b ≡ 2 ^ k - 1 → {p : ℕ} → p < k → bit b p ≡ not (bit a p)
bit_of_rest zero a b h l = absurd (not-suc-le-zero l)
bit_of_rest (suc k) a b h {p = zero} l =
    rw (bit_first a, bit_first b)
    (⊎_elim
    (λ (e : a % 2 ≡ 0). let o : b % 2 ≡ 1 = omega (arith, pow-suc 2 k, pow_pos k) in rw (e, o))
    (λ (e : a % 2 ≡ 1). let o : b % 2 ≡ 0 = omega (arith, pow-suc 2 k, pow_pos k) in rw (e, o))
    (even_or_odd a))
bit_of_rest (suc k) a b h {p = suc p} l =
    rw (bit_next a p, bit_next b p)
    (bit_of_rest k (a / 2) (b / 2) (omega (arith, pow-suc 2 k, pow_pos k)) (le_of_suc-le-suc l))

pub bit_not : (k n : ℕ) → n < 2 ^ k → {p : ℕ} → p < k → bit (2 ^ k - 1 - n) p ≡ not (bit n p)
bit_not k n h l = bit_of_rest k n (2 ^ k - 1 - n) (omega arith) l

-- the positions of a that b has not
pub bit_and_not : (k a b : ℕ) → a < 2 ^ k → b < 2 ^ k → (p : ℕ) → bit (bit_and a (2 ^ k - 1 - b)) p ≡ (bit a p
    && not (bit b p))
bit_and_not k a b ha hb p =
    bit_of_and a (2 ^ k - 1 - b) p
    ∙ ⊎_elim (λ l. rw (bit_not k b hb {p = p} l)) (λ l. rw (bit_above k a ha {p = p} l)) (below_or_from p k)

-- ---- shifts

pub bit_shift : (n k p : ℕ) → bit (n / 2 ^ k) p ≡ bit n (k + p)
unfolding bit
bit_shift n k p = rw (shr-shr n k p)

pub bit_shift_left : (n k p : ℕ) → bit (n * 2 ^ k) (k + p) ≡ bit n p
bit_shift_left n k p = sym (bit_shift (n * 2 ^ k) k p) ∙ rw (shl-shr n k)

pub bit_shift_left_low : (n k : ℕ) {p : ℕ} → p < k → bit (n * 2 ^ k) p ≡ false
bit_shift_left_low n zero l = absurd (not-suc-le-zero l)
bit_shift_left_low n (suc k) {p = zero} l = rw (bit_first (n * 2 ^ suc k), shifted_even n k)
bit_shift_left_low n (suc k) {p = suc p} l =
    rw (bit_next (n * 2 ^ suc k) p, shifted_half n k) (bit_shift_left_low n k (le_of_suc-le-suc l))

-- ---- the number with one position, and that with all positions below n

-- 1 shifted within the width loses nothing
pub one_shifted : (k : ℕ) {p : ℕ} → p < k → 1 * 2 ^ p % 2 ^ k ≡ 2 ^ p
one_shifted k {p} l = rw (one-mul (2 ^ p)) (mod-eq_of_lt (pow-lt l))

pub bit_one_shifted : (p q : ℕ) → bit (2 ^ p) q ≡ eqb q p
unfolding bit
bit_one_shifted zero zero = refl
bit_one_shifted zero (suc q) = bit_next 1 q ∙ bit_of_zero q ∙ sym (eqb-suc-zero q)
bit_one_shifted (suc p) zero = rw (bit_first (2 ^ suc p), pow-suc 2 p, mul-mod_left (2 ^ p) 2) (sym (eqb-zero-suc p))
bit_one_shifted (suc p) (suc q) =
    let half : 2 ^ suc p / 2 ≡ 2 ^ p = omega (arith, pow-suc 2 p) in
    rw (bit_next (2 ^ suc p) q, half, eqb-suc-suc) (bit_one_shifted p q)

pub bit_full : (n p : ℕ) → bit (2 ^ n - 1) p ≡ ltb p n
bit_full n p =
    ⊎_elim
    (λ l. ap (λ (m : ℕ). bit m p) (sym (sub-zero (2 ^ n - 1))) ∙ bit_not n 0 (pow_pos n) l
    ∙ rw (bit_of_zero p, lt-ltb p n l))
    (λ l. bit_above n (2 ^ n - 1) (ones_lt n) l ∙ sym (le-ltb p n l))
    (below_or_from p n)
