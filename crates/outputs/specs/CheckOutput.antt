-- What the check program prints: roles and witness lines with a comma between, or the number of the refusal. Assumes
-- nothing.
use Rattle.std.specs.Prelude.{◌≡◌, cond, ◌≢◌, eqb}
use Rattle.std.proofs.Common.{ap, eq-eqb, ne_eqb}
use Rattle.spec.specs.Text.{Bytes}
use Rattle.spec.specs.Calls.{CheckAnswer, check, Checks}
use Rattle.spec.specs.Program.{number_line}
use Rattle.outputs.specs.Lines.{pair_line}

-- the line for an answer
abbrev pub check_line : CheckAnswer → Bytes
check_line answer =
    cond (eqb answer.number 0) (pair_line answer.roles answer.witness_lines) (number_line answer.number)

-- what is printed for a sheet and a book
unfoldable pub check_output : Bytes → Bytes → Bytes
check_output sheet book = check_line (check sheet book)

-- ---- by the answer

line_of : (sheet book : Bytes) {answer : CheckAnswer} → Checks sheet book answer → check_line answer ≡ check_output
    sheet book
unfolding check_output
line_of sheet book checks = ap check_line checks.answers

pub confirmed_line : (sheet book : Bytes) {answer : CheckAnswer} → Checks sheet book answer → answer.number ≡ 0
    → pair_line answer.roles answer.witness_lines ≡ check_output sheet book
confirmed_line sheet book {answer} checks z = rw (eq-eqb answer.number 0 z) at (line_of sheet book checks)

pub refused_line : (sheet book : Bytes) {answer : CheckAnswer} → Checks sheet book answer → answer.number ≢ 0
    → number_line answer.number ≡ check_output sheet book
refused_line sheet book {answer} checks refuses = rw (ne_eqb answer.number 0 refuses) at (line_of sheet book checks)
