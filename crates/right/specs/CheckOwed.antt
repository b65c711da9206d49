-- What demands 1 and 2 ask of a check, from what it promises: its number is the first of its causes that applies, and
-- the lowest, since their numbers rise; where it is not 0 its counts are 0; and it is 0 exactly where the sheet keeps
-- the rules and the book is right.
use Rattle.std.specs.Prelude.{ℕ, ◌≡◌, List, ◌≢◌, ◌↔◌}
use Rattle.std.proofs.Common.{sym, ap, ◌∙◌, ne_eqb}
use Rattle.std.proofs.Math.Bool.{So}
use Rattle.spec.specs.Text.{Bytes}
use Rattle.spec.specs.Sheet.{Sheet}
use Rattle.spec.specs.Rules.{Keeps}
use Rattle.spec.specs.Book.{Said}
use Rattle.spec.specs.Right.{Right}
use Rattle.spec.specs.Refusal.{Cause, first_number, check_causes}
use Rattle.spec.specs.Calls.{CheckAnswer, check, check_refused, check_counts, Checks}
use Rattle.spec.specs.Demands.{LowestThatApplies, Judged}
use Rattle.rules.specs.CauseLaws.{positive, first_that_applies, first_is_lowest}
use Rattle.right.specs.Verdict.{check_causes_rise, check_causes_positive, check_number}
use Rattle.right.specs.Exact.{accepts_books, answers_counts}

-- a call whose number is the first of its causes, and which changes nothing where that is not 0
pub judged : (causes : List Cause) (number : ℕ) (Refused : Type 0) → So (positive causes)
    → number ≡ first_number causes → (first_number causes ≢ 0 → Refused) → Judged causes number Refused
judged causes number Refused p e h =
    record { first = rw e (first_that_applies causes p); refused = λ n. h (λ z. n (e ∙ z)) }

refused_check : (sheet book : Bytes) → first_number (check_causes sheet book) ≢ 0
    → check sheet book ≡ check_refused (first_number (check_causes sheet book))
unfolding check
refused_check sheet book n = rw (ne_eqb (first_number (check_causes sheet book)) 0 n)

-- demand 1 of a check
pub checks_judged : (sheet book : Bytes) (answer : CheckAnswer) → Checks sheet book answer
    → Judged (check_causes sheet book) answer.number (answer ≡ check_refused answer.number)
checks_judged sheet book answer h =
    let number : answer.number ≡ first_number (check_causes sheet book) =
    ap (λ (a : CheckAnswer). a.number) h.answers ∙ check_number sheet book in
    judged (check_causes sheet book) answer.number (answer ≡ check_refused answer.number)
    (check_causes_positive sheet book) number (λ n.
    h.answers ∙ (refused_check sheet book n ∙ ap check_refused (sym number)))

-- and as document 01 has it: the lowest
pub checks_lowest : (sheet book : Bytes) (answer : CheckAnswer) → Checks sheet book answer
    → LowestThatApplies (check_causes sheet book) answer.number
checks_lowest sheet book answer h =
    first_is_lowest (check_causes sheet book) answer.number (check_causes_rise sheet book)
    (checks_judged sheet book answer h).first

-- what the demands ask of a check's answer
pub record CheckOwed (text book : Bytes) (answer : CheckAnswer) : Type 0 where
  -- demand 1: the first number that applies, which is the lowest, with counts 0
  pub judged : Judged (check_causes text book) answer.number (answer ≡ check_refused answer.number)
  pub lowest : LowestThatApplies (check_causes text book) answer.number
  -- demand 2: 0 exactly where the book is right for the sheet, and then its counts
  pub accepts : (answer.number ≡ 0) ↔ ((sheet : Sheet) × (says : Said) × Keeps text sheet × Right sheet book says)
  pub counts : (sheet : Sheet) (says : Said) → Keeps text sheet → Right sheet book says → answer ≡ check_counts says

-- what a check promises gives it
pub check_owed : (text book : Bytes) (answer : CheckAnswer) → Checks text book answer → CheckOwed text book answer
check_owed text book answer checks =
    let same : answer.number ≡ (check text book).number = ap (λ (a : CheckAnswer). a.number) checks.answers in
    record {
      judged = checks_judged text book answer checks;
      lowest = checks_lowest text book answer checks;
      accepts = (λ z. (accepts_books text book).0 (sym same ∙ z), λ right. same ∙ (accepts_books text book).1 right);
      counts = λ sheet says keeps right. checks.answers ∙ answers_counts text book sheet says keeps right;
    }
