-- The line in the order in which it is written, part by part, and how long it can be: its numbers are numbers of the
-- machine, which have at most twenty digits each, and the longest state word has nine bytes. Assumes nothing.
use Rattle.std.specs.Prelude.{ℕ, ◌+◌, ◌-◌, ◌^◌, ◌≤◌, ◌<◌, ◌≡◌, ◌++◌, length}
use Rattle.std.proofs.Common.{arith, ⊎_elim, append_assoc, lt-ltb, le-ltb, length-append}
use Rattle.std.proofs.Math.Option.{Option, none, some}
use Rattle.spec.specs.Text.{Bytes, ascii}
use Rattle.spec.specs.Roles.{Standing, witnessed, searched, unsettled}
use Rattle.spec.specs.Decimal.{decimal}
use Rattle.spec.specs.Calls.{SearchAnswer}
use Rattle.spec.specs.LongSearch.{progress_line}
use Rattle.bits.specs.Bit.{word_bits}
use Rattle.bits.specs.Laws.Below.{below_or_from}
use Rattle.decimal.specs.WordDigits.{word_digits}
use Rattle.decimal.specs.Laws.Digit.{digits_of_word}
use Rattle.progress.specs.Parts.{gained_part, roles_part, bound_part, counts_part, speed_part, last_part}
use Rattle.progress.specs.Parts.{progress_most}

-- ---- the depth gained, by which count is larger

pub fell_back : (placed taken_back : ℕ) → placed < taken_back
    → ascii " steps so far, depth gained -" ++ decimal (taken_back - placed) ≡ gained_part placed taken_back
fell_back placed taken_back h = rw (lt-ltb placed taken_back h)

pub climbed : (placed taken_back : ℕ) → taken_back ≤ placed
    → ascii " steps so far, depth gained " ++ decimal (placed - taken_back) ≡ gained_part placed taken_back
climbed placed taken_back h = rw (le-ltb placed taken_back h)

-- ---- room for each part

gained_room : (placed taken_back : ℕ) → placed < 2 ^ word_bits → taken_back < 2 ^ word_bits
    → length (gained_part placed taken_back) ≤ 29 + word_digits
gained_room placed taken_back h k =
    ⊎_elim (λ (l : placed < taken_back).
    rw (lt-ltb placed taken_back l) (omega (arith, digits_of_word (taken_back - placed) (omega arith))))
    (λ (l : taken_back ≤ placed).
    rw (le-ltb placed taken_back l) (omega (arith, digits_of_word (placed - taken_back) (omega arith))))
    (below_or_from placed taken_back)

speed_room : (named : Option Standing) (speed : ℕ) → speed < 2 ^ word_bits
    → length (speed_part named speed) ≤ 13 + word_digits
speed_room none speed h = omega (arith, digits_of_word speed h)
speed_room (some witnessed) speed h = omega (arith, digits_of_word speed h)
speed_room (some searched) speed h = omega (arith, digits_of_word speed h)
speed_room (some unsettled) speed h = omega (arith, digits_of_word speed h)

-- ---- the line in its parts

-- the length of six parts, one after the other
six_lengths : (a b c d e f : Bytes) → length (((((a ++ b) ++ c) ++ d) ++ e) ++ f)
    ≡ length a + length b + length c + length d + length e + length f
six_lengths a b c d e f = simp length-append

module _ (so_far : ℕ) (answer : SearchAnswer) (speed : ℕ) where
  abbrev gained : Bytes
  gained = gained_part answer.placed answer.taken_back

  abbrev state : Bytes
  state = speed_part answer.standing speed

  -- each part behind those before it
  abbrev in_parts : Bytes
  in_parts = (counts_part so_far answer ++ state) ++ last_part

  pub line_parts : in_parts ≡ progress_line so_far answer speed
  line_parts = simp append_assoc

  -- the buffer has room for any line
  pub line_room :
      so_far < 2 ^ word_bits
      → answer.placed < 2 ^ word_bits
      → answer.taken_back < 2 ^ word_bits
      → answer.roles < 2 ^ word_bits
      → answer.bound < 2 ^ word_bits
      → speed < 2 ^ word_bits
      → length in_parts ≤ progress_most
  line_room s p t r b v =
      omega (
        arith,
        six_lengths (decimal so_far) gained (roles_part answer.roles) (bound_part answer.bound) state
            last_part,
        digits_of_word so_far s,
        gained_room answer.placed answer.taken_back p t,
        digits_of_word answer.roles r,
        digits_of_word answer.bound b,
        speed_room answer.standing speed v,
      )
