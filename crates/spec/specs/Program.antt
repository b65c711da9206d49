-- "The book", the program: a sheet on standard input, the budget as its argument, the book or a refusal number on
-- standard output.
use Rattle.std.specs.Prelude.{◌&&◌, ◌∷◌, ◌++◌}
use Rattle.spec.specs.Vocabulary.{ℕ, Bool, not, cond, List, [], eqb, leb, take, replicate}
use Rattle.spec.specs.Vocabulary.{empty, all}
use Rattle.spec.specs.Limits.{budget_limit, program_buffer}
use Rattle.spec.specs.Text.{Bytes, line_feed}
use Rattle.spec.specs.Decimal.{decimal, is_digit, number_of}
use Rattle.spec.specs.Session.{Session, fresh}
use Rattle.spec.specs.Refusal.{refusal, accepted}
use Rattle.spec.specs.Calls.{after_load, after_reduce, after_search, WriteAnswer, write_answer, buffer_after}

-- a number of that range: decimal digits, at least one; leading zeros are taken, a sign or a space is not
unfoldable pub is_budget : Bytes → Bool
is_budget word = not (empty word) && all is_digit word && leb (number_of word) budget_limit

-- the budget is the first argument, and 0 where there is none or it is no number of that range; others are ignored
unfoldable pub budget_of : List Bytes → ℕ
budget_of [] = 0
budget_of (word ∷ further) = cond (is_budget word) (number_of word) 0

-- the number of a refusal, and a line feed
abbrev pub number_line : ℕ → Bytes
number_line number = decimal number ++ line_feed ∷ []

-- the book that a session writes into a buffer, or the number of the refusal
unfoldable pub printed : Session → Bytes → Bytes
printed session buffer =
    let answer : WriteAnswer = write_answer session buffer in
    cond (eqb answer.number 0) (take answer.count (buffer_after session buffer)) (number_line answer.number)

-- what the program prints: it loads, reduces, searches once and writes
unfoldable pub program_output : Bytes → List Bytes → Bytes
program_output text arguments =
    let found : Bytes =
    printed (after_search (after_reduce (after_load fresh text)) (budget_of arguments)) (replicate program_buffer 0) in
    cond (accepted text) found (number_line (refusal text))
