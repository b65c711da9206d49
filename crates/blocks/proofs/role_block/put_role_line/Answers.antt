-- `role_block::put_role_line`: what is written at the front of the name's buffer is the role's name.
use Rattle.std.proofs.Common.{ℕ, List, ◌≡◌, ◌∙◌, sym, ap, take, arith}
use Rattle.spec.specs.Text.{Bytes, line_text}
use Rattle.spec.specs.Book.{role_name}
use Rattle.cell_rows.specs.Rows.{row_bits, row_words}
use Rattle.text.specs.Written.{Written, fits_as, written_as}
use Rattle.book_lines.specs.Laws.LineWritten.{front_written}
use Rattle.book_lines.specs.Laws.Name.{role_name_short}
use Rattle.book_lines.specs.Lines.{named_line}
use Rattle.book_lines.specs.RowsSaid.{role_line}
use Rattle.blocks.specs.Laws.Shown.{role_line_parts}
use Rattle.blocks.proofs.role_block.put_role_line.Goals as goal

-- the line of that name is the role's line
line_said : (gives : List ℕ) (permissions role : ℕ) {before after : Bytes} {count : ℕ}
    → Written (role_name role) before after count
    → named_line (take count after) gives role permissions ≡ line_text (role_line gives permissions role)
line_said gives permissions role w =
    ap (λ (n : Bytes). named_line n gives role permissions) (front_written w)
    ∙ sym (role_line_parts gives permissions role)

pub put_role_name-end-requires : goal.put_role_name-end-requires
unfolding row_bits row_words
put_role_name-end-requires c =
    (c.requires.within.0, role_name_short c.args.role.0 (omega (arith, c.requires.within.0)))

pub put_named_line-requires-clause-count_in_bounds :
    goal.put_named_line-requires-clause-count_in_bounds
put_named_line-requires-clause-count_in_bounds c =
    fits_as (sym (line_said c.args.gives.now c.args.permissions c.args.role.0 c.put_role_name-end.ensures))
    c.requires.room

pub returns : goal.returns
returns c =
    written_as (line_said c.args.gives.now c.args.permissions c.args.role.0 c.put_role_name-end.ensures)
    c.put_named_line.ensures
