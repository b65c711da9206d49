-- The length of block 1 from those of its three fields.
use Rattle.std.specs.Prelude.{ℕ, ◌+◌, ◌++◌, length}
use Rattle.std.proofs.Common.{arith, ap, length-append}
use Rattle.spec.specs.Text.{ascii, Bytes}
use Rattle.spec.specs.Decimal.{decimal}
use Rattle.standing.specs.StandingCases.{standing_case}
use Rattle.decimal.specs.WordDigits.{word_digits}
use Rattle.decimal.specs.Measured.{piece_most, line_most, Measured}
use Rattle.book_lines.specs.CountsText.{standing_text, counts_text}
use Rattle.book_lines.specs.Laws.Counts.{counts_parts}
use Rattle.book_lines.specs.declared.counts.Counts.{Counts}

pub counts_measured : (counts : Counts) (roles bound state : ℕ) → Measured (decimal counts.roles) word_digits roles
    → Measured (decimal counts.bound) word_digits bound
    → Measured (standing_text (standing_case counts.standing)) piece_most state
    → Measured (counts_text counts) line_most (18 + roles + (1 + bound) + state)
counts_measured counts roles bound state m k l =
    let front : Bytes = ascii "roles,bound,state\n" ++ decimal counts.roles in
    let behind : Bytes = ascii "," ++ decimal counts.bound in
    record {
      counted =
          omega (
            arith,
            m.counted,
            k.counted,
            l.counted,
            ap length (counts_parts counts),
            length-append (front ++ behind) (standing_text (standing_case counts.standing)),
            length-append front behind,
          );
      small = omega (arith, m.small, k.small, l.small);
    }
