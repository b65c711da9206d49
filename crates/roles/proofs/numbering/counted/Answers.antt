-- `roles::counted`: a role is a column of a row, so one more than its number fits; the greater of the two is answered.
use Rattle.std.proofs.Common.{arith}
use Rattle.cell_rows.specs.Rows.{row_words, row_bits}
use Rattle.roles.proofs.numbering.counted.Goals as goal

pub overflow_add-role : goal.overflow_add-role
unfolding row_bits row_words
overflow_add-role c = omega (arith, c.requires)
