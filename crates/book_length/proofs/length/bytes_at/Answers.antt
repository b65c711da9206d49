-- `length::bytes_at`: a turn adds the bytes at its place.
use Rattle.std.proofs.Common.{add-one, arith, refl}
use Rattle.spec.specs.Limits.{name_limit, user_limit}
use Rattle.bits.specs.Counting.{sum_below}
use Rattle.book_length.specs.Laws.NameBytes.{bytes_below}
use Rattle.book_length.proofs.length.bytes_at.Goals as goal

pub loop-place-init : goal.loop-place-init
unfolding sum_below
loop-place-init c = refl

pub overflow_add-total : goal.overflow_add-total
unfolding name_limit user_limit
overflow_add-total c =
    let i = c.loop-place.place-index in
    omega (
      arith,
      c.to_of.ensures,
      c.from_of.ensures,
      c.loop-place.invariant,
      c.requires.few,
      c.requires.short i c.loop-place-test.true,
      bytes_below c.requires i (omega arith),
    )

pub loop-place-preserved : goal.loop-place-preserved
unfolding sum_below
loop-place-preserved c =
    rw (add-one c.loop-place.place-index)
    (omega (arith, c.to_of.ensures, c.from_of.ensures, c.loop-place.invariant))
