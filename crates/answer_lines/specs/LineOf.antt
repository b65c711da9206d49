-- The line that each answer is. Assumes nothing.
use Rattle.std.specs.Prelude.{ℕ}
use Rattle.spec.specs.Text.{Bytes, ascii}
use Rattle.judging.specs.BookSays.{answer_of}
use Rattle.answers.specs.Said.{load_said, reduce_said, search_said, write_said}
use Rattle.answer_lines.specs.Answers.{load_line, reduce_line, search_line, digest_line, check_line}
use Rattle.answer_lines.specs.Answers.{no_call_line}
use Rattle.answer_lines.specs.declared.answer.Answer.{Answer}
use Rattle.answer_lines.specs.declared.answer.Answer.TheVariants.{NoCall, Loaded, Reduced, Searched, Written}
use Rattle.answer_lines.specs.declared.answer.Answer.TheVariants.{Checked, Admitted}

-- the bytes that a line is lent, which are more than any answer has
abbrev pub answer_most : ℕ
answer_most = 192

abbrev pub line_of : Answer → Bytes
line_of NoCall = no_call_line
line_of (Loaded a) = load_line (load_said a)
line_of (Reduced a) = reduce_line (reduce_said a)
line_of (Searched a) = search_line (search_said a)
line_of (Written a sum) = digest_line (ascii "write") (write_said a) sum
line_of (Checked a) = check_line (answer_of a)
line_of (Admitted a sum) = digest_line (ascii "newcomer") (write_said a) sum
