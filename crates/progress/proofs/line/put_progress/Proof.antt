-- `line::put_progress`: each part is written where the one before it ended, and the buffer has room for all of them,
-- since every number of the line is a number of the machine.
use borrow.Author.Rules.{rules}
use native.Mathlib.Omega.{arith}
use Prim.Native.Nat.{◌+◌, ◌≤◌}
use mathlib.Core.List.{◌++◌}
use lib.ListN.{length}
use Rattle.spec.specs.Text.{Bytes}
use Rattle.answers.specs.Said.{state_said, search_said}
use Rattle.text.specs.Written.{WrittenSoFar, with_rest, front_fits, room_behind, within_buffer, end_within}
use Rattle.text.specs.Written.{then_written, then_same_length, written_as}
use Rattle.progress.specs.Parts.{counts_part, speed_part, last_part}
use Rattle.progress.specs.Laws.Line.{line_parts, line_room}
use Rattle.progress.proofs.line.put_progress.Statement.{statement}
use Rattle.progress.proofs.line.put_progress.Tie as tie

-- ---- the parts, and room for them

abbrev counts : tie.Start → Bytes
counts s = counts_part s.args.so_far (search_said s.args.answer)

abbrev speed : tie.Start → Bytes
speed s = speed_part (state_said s.args.answer.state) s.args.speed

abbrev buffer : tie.Start → Bytes
buffer s = s.args.out.now

line_fits : (s : tie.Start) → length ((counts s ++ speed s) ++ last_part) ≤ length (buffer s)
line_fits s =
    let a = s.args in
    omega (
      arith,
      s.requires,
      line_room a.so_far (search_said a.answer) a.speed (search rules) (search rules) (search rules)
          (search rules) (search rules) (search rules),
    )

speed_fits : (s : tie.Start) → length (counts s ++ speed s) ≤ length (buffer s)
speed_fits s = front_fits (counts s ++ speed s) last_part (line_fits s)

-- ---- behind the counts

abbrev start : tie.After-put_counts-a → tie.Start
start c = c.before.before.before

behind_counts : (c : tie.After-put_counts-a)
    → let s = start c in
    WrittenSoFar (counts s) (speed s) (buffer s) c.put_counts-a.new.out c.put_counts-a.result
behind_counts c = record { written = c.put_counts-a.ensures; fits = speed_fits (start c) }

put_counts_requires : tie.Need-put_counts-a-requires
put_counts_requires c κs =
    let s = c.before.before in
    front_fits (counts s) (speed s) (speed_fits s)

sub_put_speed : tie.Need-slice_bounds-put_speed-count
sub_put_speed c = within_buffer (behind_counts c.before.before)

part_put_speed_start : tie.Need-slice_bounds-put_speed-start
part_put_speed_start c = within_buffer (behind_counts c.before.before)

put_speed_requires : tie.Need-put_speed-requires
put_speed_requires c κs = room_behind (behind_counts c.before.before.before)

-- ---- behind the steps a second

abbrev counts_put : tie.After-put_speed → tie.After-put_counts-a
counts_put c = c.before.before.before.before

behind_speed : (c : tie.After-put_speed)
    → let p = counts_put c in
    let s = start p in
    WrittenSoFar (counts s ++ speed s) last_part (buffer s)
    (with_rest p.put_counts-a.result p.put_counts-a.new.out c.put_speed.new.out)
    (p.put_counts-a.result + c.put_speed.result)
behind_speed c =
    let p = counts_put c in
    record { written = then_written (behind_counts p) c.put_speed.ensures; fits = line_fits (start p) }

add_b : tie.Need-overflow_add-b
add_b c =
    let put = c.before.before in
    omega (arith, end_within (behind_counts (counts_put put)) put.put_speed.ensures)

sub_put_bytes : tie.Need-slice_bounds-put_bytes-count
sub_put_bytes c = within_buffer (behind_speed c.before.before)

part_put_bytes_start : tie.Need-slice_bounds-put_bytes-start
part_put_bytes_start c = within_buffer (behind_speed c.before.before)

put_bytes_requires : tie.Need-put_bytes-requires
put_bytes_requires c κs = room_behind (behind_speed c.before.before.before.before.before)

-- ---- behind the last part

abbrev speed_put : tie.After-put_bytes → tie.After-put_speed
speed_put c = c.before.before.before.before.before.before

add_result : tie.Need-overflow_add-result
add_result c =
    let put = c.before.before in
    omega (arith, end_within (behind_speed (speed_put put)) put.put_bytes.ensures)

same_length : tie.Need-shape_of-out
same_length c =
    let put = c.before.before in
    then_same_length (behind_speed (speed_put put)) put.put_bytes.ensures

returns : tie.Need-returns
returns c =
    let put = c.before.before in
    let args = (start (counts_put (speed_put put))).args in
    written_as (line_parts args.so_far (search_said args.answer) args.speed)
    (then_written (behind_speed (speed_put put)) put.put_bytes.ensures)

pub put_progress_spec : {M : Type 1} → statement M
put_progress_spec =
    tie.close (tie.spec put_counts_requires sub_put_speed part_put_speed_start (λ c. search rules) put_speed_requires
    add_b sub_put_bytes part_put_bytes_start (λ c. search rules) put_bytes_requires add_result
    same_length returns)
