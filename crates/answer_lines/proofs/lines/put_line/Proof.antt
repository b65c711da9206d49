-- `lines::put_line`: the numbers are written where the word ended, and the end of the line where the numbers ended.
use borrow.Author.Rules.{rules}
use native.Mathlib.Omega.{arith}
use Prim.Native.Nat.{◌+◌}
use mathlib.Core.List.{◌++◌}
use Rattle.spec.specs.Text.{Bytes}
use Rattle.text.specs.Written.{WrittenSoFar, with_rest, front_fits, room_behind, within_buffer, end_within}
use Rattle.text.specs.Written.{then_written, then_same_length, written_as}
use Rattle.answer_lines.specs.Answers.{numbers_text, last_text}
use Rattle.answer_lines.specs.Laws.AnswerParts.{line_parts, line_room}
use Rattle.answer_lines.proofs.lines.put_line.Statement.{statement}
use Rattle.answer_lines.proofs.lines.put_line.Tie as tie

abbrev start : tie.After-put_bytes-at → tie.Start
start c = c.before.before.before.before.before.before

-- the three parts
abbrev word : tie.After-put_bytes-at → Bytes
word c = (start c).args.word.now

abbrev numbers : tie.After-put_bytes-at → Bytes
numbers c = numbers_text (start c).args.numbers.now

abbrev last : tie.After-put_bytes-at → Bytes
last c = last_text (start c).args.last.now

behind_word : (c : tie.After-put_bytes-at)
    → WrittenSoFar (word c) (numbers c) (start c).args.out.now c.put_bytes-at.new.out c.put_bytes-at.result
behind_word c =
    let args = (start c).args in
    record {
      written = c.put_bytes-at.ensures;
      fits = front_fits (word c ++ numbers c) (last c)
          (line_room args.word.now args.numbers.now args.last.now
          (λ i. (c.shared_slice_known-2-1.given i).fits) (start c).requires);
    }

abbrev word_put : tie.After-put_numbers → tie.After-put_bytes-at
word_put c = c.before.before.before.before

behind_numbers : (c : tie.After-put_numbers)
    → let w = word_put c in
    WrittenSoFar (word w ++ numbers w) (last w) (start w).args.out.now
    (with_rest w.put_bytes-at.result w.put_bytes-at.new.out c.put_numbers.new.out)
    (w.put_bytes-at.result + c.put_numbers.result)
behind_numbers c =
    let w = word_put c in
    let args = (start w).args in
    record {
      written = then_written (behind_word w) c.put_numbers.ensures;
      fits = line_room args.word.now args.numbers.now args.last.now
          (λ i. (w.shared_slice_known-2-1.given i).fits) (start w).requires;
    }

put_numbers_requires : tie.Need-put_numbers-requires
put_numbers_requires c κs = room_behind (behind_word c.before.before.before)

add_end : tie.Need-overflow_add-end
add_end c =
    let n = c.before.before in
    omega (arith, end_within (behind_word (word_put n)) n.put_numbers.ensures)

sub_put_last : tie.Need-slice_bounds-put_last-count
sub_put_last c = within_buffer (behind_numbers c.before.before)

part_put_last_start : tie.Need-slice_bounds-put_last-start
part_put_last_start c = within_buffer (behind_numbers c.before.before)

put_last_requires : tie.Need-put_last-requires
put_last_requires c κs = room_behind (behind_numbers c.before.before.before)

abbrev numbers_put : tie.After-slice_known-4-1 → tie.After-put_numbers
numbers_put c = c.before.before.before.before.before.before

add_result : tie.Need-overflow_add-result
add_result c = omega (arith, end_within (behind_numbers (numbers_put c)) c.put_last.ensures)

same_length : tie.Need-shape_of-out
same_length c = then_same_length (behind_numbers (numbers_put c)) c.put_last.ensures

returns : tie.Need-returns
returns c =
    let n = numbers_put c in
    let args = (start (word_put n)).args in
    written_as (line_parts args.word.now args.numbers.now args.last.now)
    (then_written (behind_numbers n) c.put_last.ensures)

pub put_line_spec : {M : Type 1} → statement M
put_line_spec =
    tie.close (tie.spec (λ c κs. search rules) (λ c. search rules) (λ c. search rules) (λ c. search rules)
    put_numbers_requires add_end sub_put_last part_put_last_start (λ c. search rules) put_last_requires add_result
    same_length returns)
