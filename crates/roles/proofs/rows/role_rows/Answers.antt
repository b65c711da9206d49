-- `roles::role_rows`: after i turns the roles are those of the grants of the first i words.
use Rattle.std.proofs.Common.{◌≡◌, ◌*◌, arith, refl}
use Rattle.spec.specs.Limits.{user_limit, grant_limit}
use Rattle.bits.specs.Bit.{word_bits}
use Rattle.cell_rows.specs.Rows.{row_words, row_bits}
use Rattle.cell_rows.specs.Laws.Width.{rows_cells}
use Rattle.roles.specs.Laws.RoleWalk.{no_roles}
use Rattle.roles.proofs.rows.role_rows.Goals as goal

pub loop-i-init : goal.loop-i-init
unfolding grant_limit user_limit row_words row_bits
loop-i-init c = no_roles c.args.rows.now c.args.class.now grant_limit refl

pub word_roles-count-requires : goal.word_roles-count-requires
unfolding user_limit row_words
word_roles-count-requires c =
    record { i_lt_cell_words = (omega arith, c.requires.1); roles_to = c.loop-i.invariant }

pub loop-i-preserved : goal.loop-i-preserved
unfolding row_words
loop-i-preserved c = c.word_roles-count.ensures

pub returns : goal.returns
unfolding row_words
returns c =
    let users = c.args.users in
    let end : c.loop-i.i * word_bits ≡ users * row_bits = omega (arith, rows_cells users) in
    record { table = c.loop-i.table; found = rw end at c.loop-i.invariant }

pub overflow_mul-i-end : goal.overflow_mul-i-end
unfolding user_limit
overflow_mul-i-end c = omega arith
