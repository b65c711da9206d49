-- `product::role_steps::take_role`: the words below k have taken the role.
use Rattle.std.proofs.Common.{◌≡◌, ◌∙◌, arith}
use Rattle.cell_rows.specs.Rows.{row_words}
use Rattle.product.specs.Laws.RoleSteps.{take_start, take_more, row_more}
use Rattle.product.proofs.role_steps.take_role.Goals as goal

pub loop-k-init : goal.loop-k-init
loop-k-init c = take_start _ _ _ _

pub loop-k-preserved : goal.loop-k-preserved
unfolding row_words
loop-k-preserved c = take_more c.loop-k.invariant _ c.all_if-all.ensures
    (omega (arith, c.loop-k.invariant.size, c.requires.row_len.0))

pub returns : goal.returns
unfolding row_words
returns c =
    let taken = c.loop-k.invariant in
    let all : c.loop-k.k ≡ row_words = omega arith in
    (taken.size ∙ c.requires.row_len.0, row_more c.requires.row_after (rw all at taken) c.requires.row_len.2)
