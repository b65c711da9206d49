-- What the newcomer program prints: the new book, or the number of the refusal. Assumes nothing.
use Rattle.std.specs.Prelude.{ℕ, cond, eqb, replicate}
use Rattle.spec.specs.Limits.{book_limit}
use Rattle.spec.specs.Text.{Bytes}
use Rattle.spec.specs.Program.{number_line}
use Rattle.spec.specs.Newcomer.{Admission, new_book, newcomer_answer}

-- the number that is answered with a buffer that takes every new book
abbrev pub own_number : Admission → ℕ
own_number lent = (newcomer_answer lent (replicate book_limit 0)).number

unfoldable pub newcomer_output : Admission → Bytes
newcomer_output lent = cond (eqb (own_number lent) 0) (new_book lent) (number_line (own_number lent))
