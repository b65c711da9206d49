-- `length::role_names_length`: two bytes for each name up to `R9`, three up to `R99`, and four from there on.
use borrow.Author.Rules.{rules}
use native.Mathlib.Omega.{arith}
use mathlib.Core.Path.{sym}
use Rattle.cell_rows.specs.Rows.{row_bits, row_words}
use Rattle.book_length.specs.Laws.NameBytes.{role_bytes_two, role_bytes_three, role_bytes_four}
use Rattle.book_length.proofs.length.role_names_length.Statement.{statement}
use Rattle.book_length.proofs.length.role_names_length.Tie as tie

returns : tie.Need-returns-then-roles-lt10
returns c = sym (role_bytes_two c.args.roles (omega arith))

returns_2 : tie.Need-returns-then-roles-lt100
returns_2 c = sym (role_bytes_three c.args.roles (omega arith) (omega arith))

returns_3 : tie.Need-returns
unfolding row_bits row_words
returns_3 c = sym (role_bytes_four c.args.roles (omega arith) (omega arith))

pub role_names_length_spec : {M : Type 1} → statement M
unfolding row_bits row_words
role_names_length_spec =
    tie.close (tie.spec (λ c. search rules) returns (λ c. omega arith) (λ c. omega arith) returns_2
    (λ c. omega arith) (λ c. omega arith) returns_3)
