-- Parts written one after the other by number. A loop that writes them has written the parts below i: there is room
-- for part i, and with part i written one part more is.
use Rattle.std.specs.Prelude.{ℕ, ◌+◌, ◌≤◌, ◌<◌, ◌≡◌, length}
use Rattle.std.proofs.Common.{le_trans, le_antisymm, arith}
use Rattle.spec.specs.Text.{Bytes}
use Rattle.lists.specs.Listed.{listed, listed_more, listed_front}
use Rattle.text.specs.Written.{Written, WrittenSoFar, rest_from, with_rest, nothing_written, written_length}
use Rattle.text.specs.Written.{then_written}

-- of n parts, which the buffer has room for, those below i are written
pub record Listing (n : ℕ) (part : ℕ → Bytes) (i : ℕ) (before mid : Bytes) (at : ℕ) : Type 0 where
  pub below : i ≤ n
  pub fits : length (listed n part) ≤ length before
  pub written : Written (listed i part) before mid at
  pub same_length : length mid ≡ length before

pub listing_starts : (n : ℕ) (part : ℕ → Bytes) {before : Bytes} → length (listed n part) ≤ length before
    → Listing n part 0 before before 0
listing_starts n part {before} fits =
    record { below = omega arith; fits = fits; written = nothing_written before; same_length = omega arith }

-- all are written at the end
pub listing_ends : {n : ℕ} {part : ℕ → Bytes} {i : ℕ} {before mid : Bytes} {at : ℕ} → Listing n part i before mid at
    → n ≤ i
    → Written (listed n part) before mid at
listing_ends {n} {part} {i} l e = let same : i ≡ n = le_antisymm l.below e in rw same at l.written

module _ {n : ℕ} {part : ℕ → Bytes} {i : ℕ} {before mid : Bytes} {at : ℕ} (l : Listing n part i before mid at)
    (more : i < n) where
  pub part_ready : WrittenSoFar (listed i part) (part i) before mid at
  part_ready = record { written = l.written; fits = le_trans (listed_front i n part more) l.fits }

  pub part_written : {rest : Bytes} {m : ℕ} → Written (part i) (rest_from at mid) rest m
      → Listing n part (i + 1) before (with_rest at mid rest) (at + m)
  part_written {rest} {m} v =
      let w : Written (listed (i + 1) part) before (with_rest at mid rest) (at + m) = rw (listed_more i part)
      (then_written part_ready v) in
      record {
        below = omega arith;
        fits = l.fits;
        written = w;
        same_length = written_length (listed (i + 1) part) (rw (listed_more i part) part_ready.fits) w;
      }

  -- the place after it is within the buffer
  pub part_within : {rest : Bytes} {m : ℕ} → Written (part i) (rest_from at mid) rest m → at + m ≤ length before
  part_within v = omega (arith, (then_written part_ready v).counted, part_ready.fits)
