-- The lines of the cells so far are written.
use Rattle.std.proofs.Common.{length, get_or}
use Rattle.spec.specs.Sheet.{sheet_of}
use Rattle.cell_text.specs.Laws.Parts.{Listing}
use Rattle.blocks.specs.WitnessText.{cell_line}
use Rattle.blocks.proofs.witness_block.put_cell_lines.Given as goal

abbrev pub invariant-loop-number : goal.invariant-loop-number
invariant-loop-number l =
    Listing (length l.cells) (λ j. cell_line (sheet_of l.s) (get_or l.cells j 0)) l.number-index l.initial.out l.out
    l.at
