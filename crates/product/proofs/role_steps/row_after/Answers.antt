-- `product::role_steps::row_after`: the row has what the user's cells have after the roles of the words below j.
use Rattle.std.proofs.Common.{◌≡◌, refl, arith}
use Rattle.cell_rows.specs.Rows.{row_words, row_bits}
use Rattle.cell_rows.specs.RowWords.{before_word}
use Rattle.product.specs.Laws.RoleSteps.{row_start}
use Rattle.product.proofs.role_steps.row_after.Goals as goal

pub loop-j-init : goal.loop-j-init
unfolding row_words
loop-j-init c =
    let a = c.args in
    let none : before_word a.r 0 ≡ 0 = omega arith in
    (refl, rw none (row_start a.has.now a.gives.now a.u.0))

pub returns : goal.returns
unfolding row_words row_bits
returns c =
    let all : before_word c.args.r c.loop-j.j ≡ c.args.r = omega (arith, c.requires.0) in
    rw all at c.loop-j.invariant.1
