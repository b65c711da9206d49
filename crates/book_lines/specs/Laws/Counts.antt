-- Block 1 in the order in which it is written: the line of names, the number of roles, the bound behind a comma, the
-- state behind a comma. Assumes nothing.
use Rattle.std.specs.Prelude.{◌≡◌, ◌++◌}
use Rattle.std.proofs.Common.{append_assoc, append-nil}
use Rattle.spec.specs.Text.{ascii}
use Rattle.spec.specs.Decimal.{decimal}
use Rattle.standing.specs.StandingCases.{standing_case}
use Rattle.book_lines.specs.CountsText.{standing_text, counts_text}
use Rattle.book_lines.specs.declared.counts.Counts.{Counts}

pub counts_parts : (counts : Counts)
    → counts_text counts
    ≡ ((ascii "roles,bound,state\n" ++ decimal counts.roles) ++ (ascii "," ++ decimal counts.bound))
    ++ standing_text (standing_case counts.standing)
counts_parts counts = simp (append_assoc, append-nil)
