-- `answer::written`: the number kept is the Adler-32 of the bytes.
use borrow.Author.Rules.{rules}
use Prim.Native.Nat.{ℕ}
use mathlib.Core.Path.{ap}
use Rattle.spec.specs.Text.{ascii}
use Rattle.answers.specs.Said.{write_said}
use Rattle.answer_lines.specs.Answers.{digest_line}
use Rattle.answer_lines.proofs.answer.written.Statement.{statement}
use Rattle.answer_lines.proofs.answer.written.Tie as tie

returns : tie.Need-returns
returns c =
    let answer = c.args.answer in
    ap (λ (sum : ℕ). digest_line (ascii "write") (write_said answer) sum) c.adler_32.ensures

pub written_spec : {M : Type 1} → statement M
written_spec =
    tie.close (tie.spec (λ c κs. search rules) returns)
