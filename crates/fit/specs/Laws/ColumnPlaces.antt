-- Places of columns: that of user u in the column of permission p is p * user-limit + u. A number is given by its
-- quotient and its remainder, so a place is that of one user and one permission.
use Rattle.std.specs.Prelude.{ℕ, ◌+◌, ◌*◌, ◌/◌, ◌%◌, ◌≤◌, ◌<◌, ◌≡◌, ◌&&◌, eqb}
use Rattle.std.proofs.Common.{mul_assoc, div-add-mod', le-div_iff_mul-le, div-lt_iff_lt-mul, arith, sym, ap, ◌∙◌, eqb-true, eq-eqb, lit<}
use Rattle.std.proofs.Math.Arith.{digits_div, digits_mod}
use Rattle.spec.specs.Limits.{user_limit}
use Rattle.bits.specs.Truth.{same_truth, and_intro, and_left, and_right}
use Rattle.bits.specs.Bit.{word_bits}
use Rattle.cell_rows.specs.Rows.{row_bits}
use Rattle.fit.specs.Columns.{column_words, place_limit}

pub some_users : 0 < user_limit
unfolding user_limit
some_users = omega arith

-- the words of a column have a position for each user
pub whole_columns : column_words * word_bits ≡ user_limit
unfolding user_limit
whole_columns = omega arith

pub column_from : (p : ℕ) → p * column_words * word_bits ≡ p * user_limit
column_from p = mul_assoc p column_words word_bits ∙ ap (λ n. p * n) whole_columns

-- a number by its remainder and its quotient
pub same_digits : (c q r n : ℕ) → r < c → eqb n (q * c + r) ≡ (eqb (n % c) r && eqb (n / c) q)
same_digits c q r n h =
    same_truth (eqb n (q * c + r)) (eqb (n % c) r && eqb (n / c) q)
    (λ t. let e = eqb-true n (q * c + r) t in
    and_intro (eqb (n % c) r) (eqb (n / c) q) (eq-eqb (n % c) r (ap (λ m. m % c) e ∙ digits_mod q h))
    (eq-eqb (n / c) q (ap (λ m. m / c) e ∙ digits_div q h)))
    (λ t. eq-eqb n (q * c + r) (made (eqb-true (n % c) r (and_left (eqb (n % c) r) (eqb (n / c) q) t))
    (eqb-true (n / c) q (and_right (eqb (n % c) r) (eqb (n / c) q) t))))
  where
    made : n % c ≡ r → n / c ≡ q → n ≡ q * c + r
    made e f = sym (div-add-mod' n c) ∙ ap (λ m. n / c * c + m) e ∙ ap (λ m. m * c + r) f

-- a place is that of a permission of a row
pub permission_at : (n : ℕ) → n < place_limit → n / user_limit < row_bits
permission_at n = (div-lt_iff_lt-mul some_users).1

-- past the places there are no words
pub past_places : (n : ℕ) → place_limit ≤ n → row_bits * column_words ≤ n / word_bits
past_places n h = (le-div_iff_mul-le (lit< tt)).1 (rw (column_from row_bits) h)
