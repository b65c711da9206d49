-- A block behind what is written: the empty line first, which is one byte, and then the block. Room for a book of four
-- blocks is room at each step.
use Rattle.std.specs.Prelude.{ℕ, ◌+◌, ◌≤◌, ◌++◌, length, set}
use Rattle.spec.specs.Text.{Bytes}
use Rattle.text.specs.Line.{line_end}
use Rattle.text.specs.Written.{Written, WrittenSoFar, front_fits, rest_from, with_rest, then_byte, then_written}

module _ {done before mid : Bytes} {at : ℕ} (r : WrittenSoFar done line_end before mid at) (block : Bytes)
    (fits : length ((done ++ line_end) ++ block) ≤ length before) where
  pub empty_line : WrittenSoFar (done ++ line_end) block before (set mid at 10) (at + 1)
  empty_line = record { written = then_byte r; fits = fits }

  pub block_behind : {rest : Bytes} {m : ℕ} → length (((done ++ line_end) ++ block) ++ line_end) ≤ length before
      → Written block (rest_from (at + 1) (set mid at 10)) rest m
      → WrittenSoFar ((done ++ line_end) ++ block) line_end before (with_rest (at + 1) (set mid at 10) rest)
      (at + 1 + m)
  block_behind more w = record { written = then_written empty_line w; fits = more }

-- the buffer has room for four blocks, an empty line between each two
pub record BookRoom (first second third fourth before : Bytes) : Type 0 where
  pub fits : length ((((((first ++ line_end) ++ second) ++ line_end) ++ third) ++ line_end) ++ fourth) ≤ length before

module _ {first second third fourth before : Bytes} (room : BookRoom first second third fourth before) where
  third_line_fits : length (((((first ++ line_end) ++ second) ++ line_end) ++ third) ++ line_end) ≤ length before
  third_line_fits =
      front_fits (((((first ++ line_end) ++ second) ++ line_end) ++ third) ++ line_end) fourth room.fits

  third_fits : length ((((first ++ line_end) ++ second) ++ line_end) ++ third) ≤ length before
  third_fits = front_fits ((((first ++ line_end) ++ second) ++ line_end) ++ third) line_end third_line_fits

  second_line_fits : length (((first ++ line_end) ++ second) ++ line_end) ≤ length before
  second_line_fits = front_fits (((first ++ line_end) ++ second) ++ line_end) third third_fits

  second_fits : length ((first ++ line_end) ++ second) ≤ length before
  second_fits = front_fits ((first ++ line_end) ++ second) line_end second_line_fits

  first_line_fits : length (first ++ line_end) ≤ length before
  first_line_fits = front_fits (first ++ line_end) second second_fits

  pub first_fits : length first ≤ length before
  first_fits = front_fits first line_end first_line_fits

  -- behind each block, and behind the empty line after it
  pub behind_first : {mid : Bytes} {at : ℕ} → Written first before mid at → WrittenSoFar first line_end before mid at
  behind_first w = record { written = w; fits = first_line_fits }

  pub at_second : {mid : Bytes} {at : ℕ} → WrittenSoFar first line_end before mid at
      → WrittenSoFar (first ++ line_end) second before (set mid at 10) (at + 1)
  at_second r = empty_line r second second_fits

  pub behind_second : {mid rest : Bytes} {at m : ℕ} → WrittenSoFar first line_end before mid at
      → Written second (rest_from (at + 1) (set mid at 10)) rest m
      → WrittenSoFar ((first ++ line_end) ++ second) line_end before (with_rest (at + 1) (set mid at 10) rest)
      (at + 1 + m)
  behind_second r w = block_behind r second second_fits second_line_fits w

  pub at_third : {mid : Bytes} {at : ℕ} → WrittenSoFar ((first ++ line_end) ++ second) line_end before mid at
      → WrittenSoFar (((first ++ line_end) ++ second) ++ line_end) third before (set mid at 10) (at + 1)
  at_third r = empty_line r third third_fits

  pub behind_third : {mid rest : Bytes} {at m : ℕ}
      → WrittenSoFar ((first ++ line_end) ++ second) line_end before mid at
      → Written third (rest_from (at + 1) (set mid at 10)) rest m
      → WrittenSoFar ((((first ++ line_end) ++ second) ++ line_end) ++ third) line_end before
      (with_rest (at + 1) (set mid at 10) rest) (at + 1 + m)
  behind_third r w = block_behind r third third_fits third_line_fits w

  pub at_fourth : {mid : Bytes} {at : ℕ}
      → WrittenSoFar ((((first ++ line_end) ++ second) ++ line_end) ++ third) line_end before mid at
      → WrittenSoFar (((((first ++ line_end) ++ second) ++ line_end) ++ third) ++ line_end) fourth before
      (set mid at 10) (at + 1)
  at_fourth r = empty_line r fourth room.fits
