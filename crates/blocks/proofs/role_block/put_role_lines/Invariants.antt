-- The lines below i are written.
use Rattle.spec.specs.Text.{line_text}
use Rattle.cell_text.specs.Laws.Parts.{Listing}
use Rattle.book_lines.specs.RowsSaid.{role_line}
use Rattle.blocks.proofs.role_block.put_role_lines.Given as goal

abbrev pub invariant-loop-i : goal.invariant-loop-i
invariant-loop-i l = Listing l.roles (λ r. line_text (role_line l.gives l.permissions r)) l.i l.initial.out l.out l.at
