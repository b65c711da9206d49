-- Four cells, each behind a comma, from a table of the sixteen that they can be: the four lowest digits of a word say
-- where they stand in it, and a row of cells is written four by four. Assumes nothing.
use Rattle.std.specs.Prelude.{ℕ, zero, suc, ◌+◌, ◌*◌, ◌/◌, ◌%◌, ◌^◌, ◌≤◌, ◌-◌, ◌≡◌, refl, Bool, true, false, [], ◌++◌}
use Rattle.std.specs.Prelude.{length, take, drop}
use Rattle.std.proofs.Common.{add-zero, arith, sym, ap, ◌∙◌, append_assoc, lit<}
use Rattle.std.proofs.Math.Arith.{mod-mul}
use Rattle.spec.specs.Text.{Bytes}
use Rattle.bits.specs.Counting.{one_if}
use Rattle.bits.specs.Bit.{bit}
use Rattle.bits.specs.Laws.Bit.{first_digit, bit_shift}
use Rattle.lists.specs.Listed.{listed, listed_suc, listed_more}
use Rattle.cell_text.specs.CellsText.{cell_field}

-- four cells, each behind a comma
abbrev pub four_fields : Bool → Bool → Bool → Bool → Bytes
four_fields a b c d = cell_field a ++ (cell_field b ++ (cell_field c ++ cell_field d))

-- the word of four cells
abbrev pub four_word : Bool → Bool → Bool → Bool → ℕ
four_word a b c d = one_if a + one_if b * 2 + one_if c * 4 + one_if d * 8

-- the first of the sixteen that four cells can be, by their words
abbrev pub fours : ℕ → Bytes
fours zero = []
fours (suc n) = fours n ++ four_fields (bit n 0) (bit n 1) (bit n 2) (bit n 3)

four_in : (a b c d : Bool) → let from = 8 * four_word a b c d in
    take (from + 8 - from) (drop from (fours 16)) ≡ four_fields a b c d
unfolding bit
four_in true true true true = refl
four_in true true true false = refl
four_in true true false true = refl
four_in true true false false = refl
four_in true false true true = refl
four_in true false true false = refl
four_in true false false true = refl
four_in true false false false = refl
four_in false true true true = refl
four_in false true true false = refl
four_in false true false true = refl
four_in false true false false = refl
four_in false false true true = refl
four_in false false true false = refl
four_in false false false true = refl
four_in false false false false = refl

-- a binary digit of a number
pub digit_is : (n p : ℕ) → n / 2 ^ p % 2 ≡ one_if (bit n p)
digit_is n p = first_digit (n / 2 ^ p) ∙ ap one_if (bit_shift n p 0 ∙ ap (bit n) (add-zero p))

pub one_if_small : (b : Bool) → one_if b ≤ 1
one_if_small true = omega arith
one_if_small false = omega arith

-- the four lowest digits of a number are its remainder
lowest_four : (n : ℕ) → n % 16 ≡ four_word (bit n 0) (bit n 1) (bit n 2) (bit n 3)
lowest_four n =
    let eights : n % 16 ≡ n / 8 % 2 * 8 + n % 8 = mod-mul n (lit< tt) (lit< tt) in
    let fours : n % 8 ≡ n / 4 % 2 * 4 + n % 4 = mod-mul n (lit< tt) (lit< tt) in
    let twos : n % 4 ≡ n / 2 % 2 * 2 + n % 2 = mod-mul n (lit< tt) (lit< tt) in
    rw (eights, fours, twos, digit_is n 3, digit_is n 2, digit_is n 1, first_digit n)
    (sum (one_if (bit n 0)) (one_if (bit n 1)) (one_if (bit n 2)) (one_if (bit n 3)))
  where
    sum : (a b c d : ℕ) → d * 8 + (c * 4 + (b * 2 + a)) ≡ a + b * 2 + c * 4 + d * 8
    sum a b c d = omega arith

pub fours_length : length (fours 16) ≡ 128
unfolding bit
fours_length = refl

-- where they stand
pub four_part : (word : ℕ) {table : Bytes} → table ≡ fours 16 → let from = 8 * (word % 16) in
    take (from + 8 - from) (drop from table) ≡ four_fields (bit word 0) (bit word 1) (bit word 2) (bit word 3)
four_part word e = rw (e, lowest_four word) (four_in (bit word 0) (bit word 1) (bit word 2) (bit word 3))

module _ (test : ℕ → Bool) where
  -- the bytes of the cells from 4 * j on
  abbrev pub four_at : ℕ → Bytes
  four_at j = four_fields (test (4 * j)) (test (4 * j + 1)) (test (4 * j + 2)) (test (4 * j + 3))

  abbrev field_at : ℕ → Bytes
  field_at p = cell_field (test p)

  -- four parts more
  four_more : (n : ℕ) → listed (n + 1 + 1 + 1 + 1) field_at
      ≡ listed n field_at ++ (field_at n ++ (field_at (n + 1) ++ (field_at (n + 1 + 1) ++ field_at (n + 1 + 1 + 1))))
  four_more n =
      let l = listed n field_at in
      listed_more (n + 1 + 1 + 1) field_at
      ∙ rw (listed_more (n + 1 + 1) field_at, listed_more (n + 1) field_at, listed_more n field_at)
      (rw (append_assoc l (field_at n) (field_at (n + 1)))
      (rw (append_assoc l (field_at n ++ field_at (n + 1)) (field_at (n + 1 + 1)))
      (rw (append_assoc (field_at n) (field_at (n + 1)) (field_at (n + 1 + 1)))
      (rw (append_assoc l (field_at n ++ (field_at (n + 1) ++ field_at (n + 1 + 1))) (field_at (n + 1 + 1 + 1)))
      (rw (append_assoc (field_at n) (field_at (n + 1) ++ field_at (n + 1 + 1)) (field_at (n + 1 + 1 + 1)))
      (rw (append_assoc (field_at (n + 1)) (field_at (n + 1 + 1)) (field_at (n + 1 + 1 + 1))) refl))))))

  -- four by four they are the cells one by one
  pub fours_said : (q : ℕ) → listed q four_at ≡ listed (4 * q) field_at
  fours_said zero = refl
  fours_said (suc q) =
      let e : 4 * suc q ≡ 4 * q + 1 + 1 + 1 + 1 = omega arith in
      let second : 4 * q + 2 ≡ 4 * q + 1 + 1 = omega arith in
      let third : 4 * q + 3 ≡ 4 * q + 1 + 1 + 1 = omega arith in
      listed_suc q four_at
      ∙ rw (
        fours_said q,
        e,
        second,
        third,
      )
      (sym (four_more (4 * q)))

-- what is said of a word shifted to the first of four cells
pub four_shifted : (word j : ℕ)
    → let rest = word / 2 ^ (4 * j) in four_fields (bit rest 0) (bit rest 1) (bit rest 2) (bit rest 3) ≡ four_at
    (bit word) j
four_shifted word j =
    rw (
      bit_shift word (4 * j) 0,
      bit_shift word (4 * j) 1,
      bit_shift word (4 * j) 2,
      bit_shift word (4 * j) 3,
      add-zero (4 * j),
    ) refl
