-- `names::put_role_name`: `R`, then the number from 1 on.
use borrow.Author.Rules.{rules}
use native.Mathlib.Omega.{arith}
use mathlib.Core.Path.{sym}
use Rattle.cell_rows.specs.Rows.{row_bits, row_words}
use Rattle.book_lines.specs.Laws.Name.{role_name_parts}
use Rattle.text.specs.Written.{fits_as, written_as}
use Rattle.book_lines.proofs.role_names.put_role_name.Statement.{statement}
use Rattle.book_lines.proofs.role_names.put_role_name.Tie as tie

put_counted_requires : tie.Need-put_counted-requires
put_counted_requires c κs =
    fits_as (role_name_parts c.args.role.0) c.requires.1

returns : tie.Need-returns
returns c =
    written_as (sym (role_name_parts c.args.role.0))
    c.put_counted.ensures

pub put_role_name_spec : {M : Type 1} → statement M
unfolding row_bits row_words
put_role_name_spec =
    tie.close (tie.spec (λ c. omega arith) put_counted_requires (λ c. search rules) returns)
