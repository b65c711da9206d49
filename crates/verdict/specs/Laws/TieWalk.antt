-- The search for the lowest tie by the words of a column: the users at the positions of a column's word whose cells
-- can have one are tried, in rising number.
use Rattle.std.specs.Prelude.{ℕ, ◌+◌, ◌-◌, ◌*◌, ◌≤◌, ◌<◌, ◌≡◌, Bool}
use Rattle.std.proofs.Common.{add-sub_of_le, mul-le-mul_right, lt_of_lt_of_le, zero-mul, arith}
use Rattle.bits.specs.Bit.{bit, word_bits}
use Rattle.bits.specs.Counting.{Lowest}
use Rattle.cell_rows.specs.Rows.{row_bits}
use Rattle.cell_rows.specs.CellPlaces.{cells_of}
use Rattle.cell_rows.specs.Laws.Width.{rows_cells}
use Rattle.verdict.specs.Laws.NearTie.{none_in_rows, none_then_lowest}
use Rattle.bits.specs.Laws.Walk.{Walk, walk_before, walk_ended}
use Rattle.verdict.specs.ReductionVerdict.{LowestIn, NoneIn}
use Rattle.verdict.specs.Misfits.{users_before}

-- none of the cells of one of the users passes, the user at position q of a column's word j
abbrev pub NoneAt : (ℕ → Bool) → ℕ → ℕ → ℕ → Type 0
NoneAt test users j q =
    j * word_bits + q < users → NoneIn test ((j * word_bits + q) * row_bits) ((j * word_bits + q + 1) * row_bits)

-- the cells of the users before a column's word are cells of these users
pub before_within : (users j : ℕ) → users_before users j * row_bits ≤ cells_of users
before_within users j =
    let few : users_before users j ≤ users = omega arith in
    rw (rows_cells users) at (mul-le-mul_right row_bits few)

-- before the first word there are none
pub none_at_first : {test : ℕ → Bool} (users : ℕ) → NoneIn test 0 (users_before users 0 * row_bits)
none_at_first users =
    let none : users_before users 0 ≡ 0 = omega arith in
    record { fails = λ m from to. absurd (omega (arith, rw (none, zero-mul row_bits) at to)) }

module _ (test : ℕ → Bool) (users j : ℕ) (inside : j * word_bits < users) where
  -- the users from the column's word on, as far as each of them is known to have none
  none_up_to : (count : ℕ) → j * word_bits + count ≤ users → ((q : ℕ) → q < count → NoneAt test users j q)
      → NoneIn test (users_before users j * row_bits) ((j * word_bits + count) * row_bits)
  none_up_to count few each =
      let start : users_before users j ≡ j * word_bits = omega arith in
      rw start (none_in_rows (j * word_bits) (j * word_bits + count) (λ u from to.
      rw (add-sub_of_le from) at (each (u - j * word_bits) (omega arith) (omega arith))))

  pub lowest_in_column : {word w q n : ℕ} → Walk word (NoneAt test users j) w → Lowest word_bits (bit w) q
      → j * word_bits + q < users
      → LowestIn test ((j * word_bits + q) * row_bits) ((j * word_bits + q + 1) * row_bits) n
      → LowestIn test (users_before users j * row_bits) (users_before users (j + 1) * row_bits) n
  lowest_in_column {q = q} walk low within found =
      let before : users_before users j ≤ j * word_bits + q = omega arith in
      let most : j * word_bits + q + 1 ≤ users_before users (j + 1) = omega (arith, low.within) in
      let all = none_then_lowest (mul-le-mul_right row_bits before)
      (none_up_to q (omega arith) (walk_before walk low)) found in
      record {
        begun = all.begun;
        within = lt_of_lt_of_le all.within (mul-le-mul_right row_bits most);
        holds = all.holds;
        first = all.first;
      }

  pub none_in_column : {word : ℕ} → Walk word (NoneAt test users j) 0
      → NoneIn test (users_before users j * row_bits) (users_before users (j + 1) * row_bits)
  none_in_column walk =
      let count = users_before users (j + 1) - j * word_bits in
      let end : j * word_bits + count ≡ users_before users (j + 1) = omega arith in
      rw end at (none_up_to count (omega arith) (λ q l. walk_ended walk q (omega arith)))
