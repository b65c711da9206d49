-- The lines below i are written.
use Rattle.spec.specs.Text.{line_text}
use Rattle.spec.specs.Sheet.{sheet_of, user_count}
use Rattle.cell_text.specs.Laws.Parts.{Listing}
use Rattle.book_lines.specs.RowsSaid.{user_line}
use Rattle.blocks.proofs.user_block.put_user_lines.Given as goal

abbrev pub invariant-loop-i : goal.invariant-loop-i
invariant-loop-i l =
    Listing (user_count (sheet_of l.s)) (λ u. line_text (user_line (sheet_of l.s) l.has l.roles u)) l.i l.initial.out
    l.out l.at
