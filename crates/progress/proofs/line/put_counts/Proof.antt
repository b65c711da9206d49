-- `line::put_counts`: each part is written where the one before it ended.
use borrow.Author.Rules.{rules}
use native.Mathlib.Omega.{arith}
use Prim.Native.Nat.{ℕ, ◌+◌, ◌^◌, ◌≤◌, ◌<◌}
use mathlib.Core.List.{◌++◌}
use lib.ListN.{length}
use Rattle.spec.specs.Text.{Bytes}
use Rattle.spec.specs.Decimal.{decimal}
use Rattle.bits.specs.Bit.{word_bits}
use Rattle.text.specs.Written.{WrittenSoFar, with_rest, front_fits, room_behind, within_buffer, end_within}
use Rattle.text.specs.Written.{then_written, then_same_length}
use Rattle.progress.specs.Parts.{gained_part, roles_part, bound_part}
use Rattle.progress.proofs.line.put_counts.Statement.{statement}
use Rattle.progress.proofs.line.put_counts.Tie as tie

-- ---- the parts, and the line up to the end of each

abbrev steps : tie.Start → Bytes
steps s = decimal s.args.so_far

abbrev gained : tie.Start → Bytes
gained s = gained_part s.args.answer.placed s.args.answer.taken_back

abbrev roles : tie.Start → Bytes
roles s = roles_part s.args.answer.roles

abbrev bound : tie.Start → Bytes
bound s = bound_part s.args.answer.bound

abbrev to_gained : tie.Start → Bytes
to_gained s = steps s ++ gained s

abbrev to_roles : tie.Start → Bytes
to_roles s = to_gained s ++ roles s

-- ---- room for them

abbrev buffer : tie.Start → Bytes
buffer s = s.args.out.now

-- the places of a buffer are numbers of the machine
buffer_small : (s : tie.Start) → length (buffer s) < 2 ^ word_bits
buffer_small s = search rules

roles_fit : (s : tie.Start) → length (to_roles s) ≤ length (buffer s)
roles_fit s = front_fits (to_roles s) (bound s) s.requires

gained_fits : (s : tie.Start) → length (to_gained s) ≤ length (buffer s)
gained_fits s = front_fits (to_gained s) (roles s) (roles_fit s)

-- ---- behind the steps so far

abbrev start : tie.After-put_decimal-a → tie.Start
start c = c.before.before.before

behind_steps : (c : tie.After-put_decimal-a)
    → let s = start c in
    WrittenSoFar (steps s) (gained s) (buffer s) c.put_decimal-a.new.out c.put_decimal-a.result
behind_steps c = record { written = c.put_decimal-a.ensures; fits = gained_fits (start c) }

put_decimal_requires : tie.Need-put_decimal-a-requires
put_decimal_requires c κs =
    let s = c.before.before in
    front_fits (steps s) (gained s) (gained_fits s)

sub_put_gained : tie.Need-slice_bounds-put_gained-count
sub_put_gained c = within_buffer (behind_steps c.before.before)

part_put_gained_start : tie.Need-slice_bounds-put_gained-start
part_put_gained_start c = within_buffer (behind_steps c.before.before)

put_gained_requires : tie.Need-put_gained-requires
put_gained_requires c κs = room_behind (behind_steps c.before.before.before)

-- ---- behind the depth gained

abbrev steps_put : tie.After-put_gained → tie.After-put_decimal-a
steps_put c = c.before.before.before.before

-- where it ends, and what the buffer then holds
abbrev gained_end : tie.After-put_gained → ℕ
gained_end c = (steps_put c).put_decimal-a.result + c.put_gained.result

abbrev gained_left : tie.After-put_gained → Bytes
gained_left c =
    let p = steps_put c in
    with_rest p.put_decimal-a.result p.put_decimal-a.new.out c.put_gained.new.out

behind_gained : (c : tie.After-put_gained)
    → let s = start (steps_put c) in
    WrittenSoFar (to_gained s) (roles s) (buffer s) (gained_left c) (gained_end c)
behind_gained c =
    record {
      written = then_written (behind_steps (steps_put c)) c.put_gained.ensures;
      fits = roles_fit (start (steps_put c));
    }

add_b : tie.Need-overflow_add-b
add_b c =
    let put = c.before.before in
    omega (arith, end_within (behind_steps (steps_put put)) put.put_gained.ensures)

sub_put_counted : tie.Need-slice_bounds-put_counted-count
sub_put_counted c = within_buffer (behind_gained c.before.before)

part_put_counted_start : tie.Need-slice_bounds-put_counted-start
part_put_counted_start c = within_buffer (behind_gained c.before.before)

put_counted_requires : tie.Need-put_counted-requires
put_counted_requires c κs = room_behind (behind_gained c.before.before.before.before.before)

-- ---- behind the roles

abbrev gained_put : tie.After-put_counted → tie.After-put_gained
gained_put c = c.before.before.before.before.before.before

behind_roles : (c : tie.After-put_counted)
    → let p = gained_put c in
    let s = start (steps_put p) in
    WrittenSoFar (to_roles s) (bound s) (buffer s) (with_rest (gained_end p) (gained_left p) c.put_counted.new.out)
    (gained_end p + c.put_counted.result)
behind_roles c =
    let p = gained_put c in
    record { written = then_written (behind_gained p) c.put_counted.ensures; fits = (start (steps_put p)).requires }

add_c : tie.Need-overflow_add-c
add_c c =
    let put = c.before.before in
    omega (arith, end_within (behind_gained (gained_put put)) put.put_counted.ensures)

sub_put_counted_2 : tie.Need-slice_bounds-put_counted-count-2
sub_put_counted_2 c = within_buffer (behind_roles c.before.before)

part_put_counted_start_2 : tie.Need-slice_bounds-put_counted-start-2
part_put_counted_start_2 c = within_buffer (behind_roles c.before.before)

put_counted_requires_2 : tie.Need-put_counted-requires-2
put_counted_requires_2 c κs = room_behind (behind_roles c.before.before.before.before.before)

-- ---- behind the bound

abbrev roles_put : tie.After-put_counted-2 → tie.After-put_counted
roles_put c = c.before.before.before.before.before.before

add_result : tie.Need-overflow_add-result
add_result c =
    let put = c.before.before in
    let roles = roles_put put in
    omega (
      arith,
      end_within (behind_roles roles) put.put_counted-2.ensures,
      buffer_small (start (steps_put (gained_put roles))),
    )

same_length : tie.Need-shape_of-out
same_length c =
    let put = c.before.before in
    then_same_length (behind_roles (roles_put put)) put.put_counted-2.ensures

returns : tie.Need-returns
returns c =
    let put = c.before.before in
    then_written (behind_roles (roles_put put)) put.put_counted-2.ensures

pub put_counts_spec : {M : Type 1} → statement M
put_counts_spec =
    tie.close (tie.spec put_decimal_requires sub_put_gained part_put_gained_start (λ c. search rules)
    put_gained_requires add_b sub_put_counted part_put_counted_start (λ c. search rules)
    put_counted_requires add_c sub_put_counted_2 part_put_counted_start_2 (λ c. search rules)
    put_counted_requires_2 add_result same_length returns)
