-- `lines::put_numbers`: the numbers below the index are written.
use Rattle.std.proofs.Common.{length, get_or}
use Rattle.spec.specs.Decimal.{decimal}
use Rattle.cell_text.specs.Laws.Parts.{Listing}
use Rattle.answer_lines.specs.Answers.{behind_blank}
use Rattle.answer_lines.proofs.lines.put_numbers.Given as goal

abbrev pub invariant-loop-number : goal.invariant-loop-number
invariant-loop-number l =
    Listing (length l.numbers) (λ j. behind_blank (decimal (get_or l.numbers j 0))) l.number-index l.initial.out l.out l.at
