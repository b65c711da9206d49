-- The lengths of the lines of the cells so far are added.
use Rattle.std.proofs.Common.{length, get_or}
use Rattle.spec.specs.Sheet.{sheet_of}
use Rattle.decimal.specs.Measured.{Adding, piece_most}
use Rattle.blocks.specs.WitnessText.{cell_line}
use Rattle.book_length.proofs.length.witness_length.Given as goal

abbrev pub invariant-loop-number : goal.invariant-loop-number
invariant-loop-number l =
    Adding (length l.cells) (λ j. cell_line (sheet_of l.s) (get_or l.cells j 0)) piece_most l.number-index l.total
