-- The names below i are written.
use Rattle.spec.specs.Book.{role_name}
use Rattle.cell_text.specs.Laws.Parts.{Listing}
use Rattle.text.specs.Line.{behind_comma}
use Rattle.book_lines.proofs.role_names.put_role_fields.Given as goal

abbrev pub invariant-loop-i : goal.invariant-loop-i
invariant-loop-i l = Listing l.roles (λ r. behind_comma (role_name r)) l.i l.initial.out l.out l.at
