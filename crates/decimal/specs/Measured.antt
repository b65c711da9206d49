-- How long a text is, beside a bound on it that keeps sums of lengths from wrapping: a piece of a line, a line, a
-- block. A loop that adds the lengths of parts has added those of the parts below i. Assumes nothing.
use Rattle.std.specs.Prelude.{ℕ, ◌+◌, ◌*◌, ◌^◌, ◌≤◌, ◌<◌, ◌≡◌, length}
use Rattle.std.proofs.Common.{le_antisymm, suc-mul, add-one, arith, ap, length-append}
use Rattle.spec.specs.Text.{Bytes}
use Rattle.lists.specs.Listed.{listed, listed_more}

-- no piece of a line, no line of a book and no block of a book is longer
abbrev pub piece_most : ℕ
piece_most = 2 ^ 6

abbrev pub line_most : ℕ
line_most = 2 ^ 14

abbrev pub block_most : ℕ
block_most = 2 ^ 22

-- a text's length, which is at most so much
pub record Measured (text : Bytes) (most count : ℕ) : Type 0 where
  pub counted : count ≡ length text
  pub small : count ≤ most

-- a higher bound holds too
pub measured_within : {text : Bytes} {most more count : ℕ} → Measured text most count → most ≤ more
    → Measured text more count
measured_within m h = record { counted = m.counted; small = omega (arith, m.small) }

-- the same text under another name
pub measured_as : {text same : Bytes} {most count : ℕ} → text ≡ same → Measured text most count
    → Measured same most count
measured_as e m = rw e at m

-- of n parts of at most so much each, the lengths of those below i are added
pub record Adding (n : ℕ) (part : ℕ → Bytes) (most i total : ℕ) : Type 0 where
  pub below : i ≤ n
  pub counted : total ≡ length (listed i part)
  pub small : total ≤ i * most

pub adding_starts : (n : ℕ) (part : ℕ → Bytes) (most : ℕ) → Adding n part most 0 0
adding_starts n part most = record { below = omega arith; counted = omega arith; small = omega arith }

module _ {n : ℕ} {part : ℕ → Bytes} {most i total : ℕ} (a : Adding n part most i total) where
  pub part_added : {count : ℕ} → i < n → Measured (part i) most count → Adding n part most (i + 1) (total + count)
  part_added {count} more m =
      record {
        below = omega arith;
        counted = omega (
          arith,
          a.counted,
          m.counted,
          ap length (listed_more i part),
          length-append (listed i part)
              (part i),
        );
        small = rw (add-one i) (omega (arith, suc-mul i most, a.small, m.small));
      }

  -- all are added at the end
  pub adding_ends : n ≤ i → Measured (listed n part) (n * most) total
  adding_ends e =
      let same : i ≡ n = le_antisymm a.below e in
      record { counted = rw same at a.counted; small = rw same at a.small }
