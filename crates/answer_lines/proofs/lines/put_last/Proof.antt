-- `lines::put_last`: without a last word the line feed stands alone; else it stands behind the word, which stands
-- behind the blank.
use borrow.Author.Rules.{rules}
use native.Mathlib.Omega.{arith}
use Prim.Native.Nat.{◌+◌, ◌≤◌}
use mathlib.Core.Path.{sym}
use mathlib.Core.List.{[], ◌∷◌, ◌++◌}
use lib.ListN.{length}
use Rattle.spec.specs.Text.{Bytes, line_feed}
use Rattle.text.specs.Written.{WrittenSoFar, with_rest, fits_as, front_fits, room_behind, within_buffer, end_within}
use Rattle.text.specs.Written.{then_written, byte_within, then_byte, byte_same_length, written_as}
use Rattle.answer_lines.specs.Answers.{blank}
use Rattle.answer_lines.specs.Laws.AnswerParts.{last_none, last_some}
use Rattle.answer_lines.proofs.lines.put_last.Statement.{statement}
use Rattle.answer_lines.proofs.lines.put_last.Tie as tie

put_empty_line_requires : tie.Need-put_empty_line-requires
put_empty_line_requires c κs =
    let told = c.before in
    let start = told.before.before.before in
    fits_as (sym (last_none start.args.last.now told.if-last-eq0.true)) start.requires

returns : tie.Need-returns-then-last-eq0
returns c =
    let put = c.before.before in
    let told = put.before.before in
    let start = told.before.before.before in
    written_as (last_none start.args.last.now told.if-last-eq0.true) put.put_empty_line.ensures

-- there is room for all of it
abbrev start : tie.Else-last-eq0 → tie.Start
start c = c.before.before.before

abbrev word : tie.Else-last-eq0 → Bytes
word c = (start c).args.last.now

fits : (c : tie.Else-last-eq0) → length ((blank ∷ word c) ++ line_feed ∷ []) ≤ length (start c).args.out.now
fits c = fits_as (sym (last_some (word c) c.if-last-eq0.false)) (start c).requires

abbrev told : tie.After-put_bytes-at → tie.Else-last-eq0
told c = c.before.before.before.before

behind_blank : (c : tie.After-put_bytes-at)
    → WrittenSoFar (blank ∷ []) (word (told c)) (start (told c)).args.out.now c.put_bytes-at.new.out
    c.put_bytes-at.result
behind_blank c =
    record {
      written = c.put_bytes-at.ensures;
      fits = front_fits (blank ∷ word (told c)) (line_feed ∷ []) (fits (told c));
    }

abbrev blank_put : tie.After-slice_known-3-1 → tie.After-put_bytes-at
blank_put c = c.before.before.before.before.before.before

behind_word : (c : tie.After-slice_known-3-1)
    → let b = blank_put c in
    WrittenSoFar (blank ∷ word (told b)) (line_feed ∷ []) (start (told b)).args.out.now
    (with_rest b.put_bytes-at.result b.put_bytes-at.new.out c.put_bytes.new.out)
    (b.put_bytes-at.result + c.put_bytes.result)
behind_word c =
    let b = blank_put c in
    record {
      written = then_written (behind_blank b) c.put_bytes.ensures;
      fits = fits (told b);
    }

put_bytes_requires : tie.Need-put_bytes-at-requires
put_bytes_requires c κs = omega (arith, fits c.before.before.before)

sub_put_bytes : tie.Need-slice_bounds-put_bytes-count
sub_put_bytes c = within_buffer (behind_blank c.before.before)

part_put_bytes_start : tie.Need-slice_bounds-put_bytes-start
part_put_bytes_start c = within_buffer (behind_blank c.before.before)

put_bytes_requires_2 : tie.Need-put_bytes-requires
put_bytes_requires_2 c κs = room_behind (behind_blank c.before.before.before)

add_end : tie.Need-overflow_add-end
add_end c = omega (arith, end_within (behind_blank (blank_put c)) c.put_bytes.ensures)

slice_write_out : tie.Need-bounds-out-end
slice_write_out c = byte_within (behind_word c)

add_result : tie.Need-overflow_add-result
add_result c = omega (arith, byte_within (behind_word c))

same_length_2 : tie.Need-shape_of-out
same_length_2 c = byte_same_length (behind_word c)

returns_2 : tie.Need-returns
returns_2 c =
    let t = told (blank_put c) in
    written_as (last_some (word t) t.if-last-eq0.false) (then_byte (behind_word c))

pub put_last_spec : {M : Type 1} → statement M
put_last_spec =
    tie.close (tie.spec put_empty_line_requires (λ c. search rules) returns put_bytes_requires
    sub_put_bytes part_put_bytes_start (λ c. search rules) put_bytes_requires_2 add_end slice_write_out add_result
    same_length_2 returns_2)
