use Rattle.bits.specs.Bit.{bit}
use Rattle.cell_text.specs.CellsText.{cell_field}
use Rattle.cell_text.specs.Laws.Parts.{Listing}
use Rattle.cell_text.proofs.row.put_word.Given as goal

-- the cells below i are written
abbrev pub invariant-loop-i : goal.invariant-loop-i
invariant-loop-i l = Listing l.count (λ p. cell_field (bit l.word p)) l.i l.fn.out l.out l.at
