-- The bytes at the places so far are added.
use Rattle.std.proofs.Common.{◌≡◌, ◌-◌}
use Rattle.bits.specs.Counting.{sum_below}
use Rattle.places.specs.Places.{from_at, to_at}
use Rattle.book_length.proofs.length.bytes_at.Given as goal

abbrev pub invariant-loop-place : goal.invariant-loop-place
invariant-loop-place l = l.total ≡ sum_below l.place-index (λ j. to_at l.places j - from_at l.places j)
