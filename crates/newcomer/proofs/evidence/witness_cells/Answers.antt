-- `evidence::witness_cells`: the cells of the first j lines are there; each line is kept, and its cell is a number of
-- 16 bits, since there are no more users and permissions than that.
use Rattle.std.proofs.Common.{◌≡◌, arith, refl}
use Rattle.spec.specs.Limits.{user_limit, permission_limit, role_limit}
use Rattle.cell_rows.specs.Rows.{row_words, row_bits}
use Rattle.newcomer.specs.Laws.WitnessCells.{no_cells_yet, one_cell_more}
use Rattle.newcomer.proofs.evidence.witness_cells.Goals as goal

pub loop-j-init : goal.loop-j-init
unfolding role_limit permission_limit
loop-j-init c = no_cells_yet _ _ refl

pub offset_bounds-witness-j : goal.offset_bounds-witness-j
unfolding role_limit permission_limit
offset_bounds-witness-j c = omega (arith, c.requires.few)

pub bounds-witness-j : goal.bounds-witness-j
unfolding role_limit permission_limit
bounds-witness-j c = omega (arith, c.requires.few)

pub overflow_mul-cells : goal.overflow_mul-cells
unfolding user_limit
overflow_mul-cells c = omega (arith, c.requires.user c.loop-j.j c.loop-j-test.true)

pub overflow_add-cells : goal.overflow_add-cells
unfolding user_limit row_bits row_words
overflow_add-cells c =
    let within = c.loop-j-test.true in
    omega (arith, c.requires.user c.loop-j.j within, c.requires.permission c.loop-j.j within)

pub overflow_cast-cells : goal.overflow_cast-cells
unfolding user_limit row_bits row_words
overflow_cast-cells c =
    let within = c.loop-j-test.true in
    omega (arith, c.requires.user c.loop-j.j within, c.requires.permission c.loop-j.j within)

pub offset_bounds-cells-j : goal.offset_bounds-cells-j
unfolding role_limit permission_limit
offset_bounds-cells-j c = omega (arith, c.requires.few)

pub bounds-cells-j : goal.bounds-cells-j
unfolding role_limit permission_limit
bounds-cells-j c = omega (arith, c.requires.few)

pub loop-j-preserved : goal.loop-j-preserved
unfolding role_limit permission_limit row_bits row_words
loop-j-preserved c =
    one_cell_more c.args.witness c.loop-j.cells c.loop-j.j _ c.loop-j.invariant (omega (arith, c.requires.few)) refl

pub returns : goal.returns
returns c =
    let all : c.loop-j.j ≡ c.args.witness.lines = omega arith in
    rw all at c.loop-j.invariant
