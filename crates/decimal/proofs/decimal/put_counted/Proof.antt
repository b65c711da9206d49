-- `decimal::put_counted`: the number is written where the bytes ended.
use borrow.Author.Rules.{rules}
use Prim.Native.Nat.{◌≤◌}
use native.Mathlib.Omega.{arith}
use mathlib.Core.List.{◌++◌}
use lib.ListN.{length}
use Rattle.spec.specs.Text.{Bytes}
use Rattle.spec.specs.Decimal.{decimal}
use Rattle.text.specs.Written.{WrittenSoFar, end_within, front_fits, room_behind, then_same_length, then_written}
use Rattle.text.specs.Written.{within_buffer}
use Rattle.decimal.proofs.decimal.put_counted.Statement.{statement}
use Rattle.decimal.proofs.decimal.put_counted.Tie as tie

abbrev mark : tie.Start → Bytes
mark s = s.args.mark.now

abbrev number : tie.Start → Bytes
number s = decimal s.args.n

fits : (s : tie.Start) → length (mark s ++ number s) ≤ length s.args.out.now
fits s = s.requires

abbrev start : tie.After-put_bytes-at → tie.Start
start c = c.before.before.before.before

behind_mark : (c : tie.After-put_bytes-at)
    → WrittenSoFar (mark (start c)) (number (start c)) (start c).args.out.now c.put_bytes-at.new.out
    c.put_bytes-at.result
behind_mark c = record { written = c.put_bytes-at.ensures; fits = fits (start c) }

put_bytes_requires : tie.Need-put_bytes-at-requires
put_bytes_requires c κs =
    let s = c.before.before.before in
    front_fits (mark s) (number s) (fits s)

sub_put_decimal : tie.Need-slice_bounds-put_decimal-count
sub_put_decimal c = within_buffer (behind_mark c.before.before)

part_put_decimal_start : tie.Need-slice_bounds-put_decimal-start
part_put_decimal_start c = within_buffer (behind_mark c.before.before)

put_decimal_requires : tie.Need-put_decimal-requires
put_decimal_requires c κs = room_behind (behind_mark c.before.before.before)

add_result : tie.Need-overflow_add-result
add_result c =
    let earlier = c.before.before.before.before.before.before in
    omega (arith, end_within (behind_mark earlier) c.put_decimal.ensures)

same_length : tie.Need-shape_of-out
same_length c =
    let earlier = c.before.before.before.before.before.before in
    then_same_length (behind_mark earlier) c.put_decimal.ensures

returns : tie.Need-returns
returns c =
    let earlier = c.before.before.before.before.before.before in
    then_written (behind_mark earlier) c.put_decimal.ensures

pub put_counted_spec : {M : Type 1} → statement M
put_counted_spec =
    tie.close (tie.spec put_bytes_requires sub_put_decimal part_put_decimal_start (λ c. search rules)
    put_decimal_requires add_result same_length returns)
