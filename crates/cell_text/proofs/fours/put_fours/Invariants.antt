use Rattle.bits.specs.Bit.{bit}
use Rattle.cell_text.specs.FourCells.{four_at}
use Rattle.cell_text.specs.Laws.Parts.{Listing}
use Rattle.cell_text.proofs.fours.put_fours.Given as goal

-- the fours below i are written
abbrev pub invariant-loop-i : goal.invariant-loop-i
invariant-loop-i l = Listing l.fours (four_at (bit l.word)) l.i l.fn.out l.out l.at
