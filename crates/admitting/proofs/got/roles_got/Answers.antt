-- `got::roles_got`: the row has those of the roles below r that the user gets.
use Rattle.std.proofs.Common.{◌≡◌, refl, sym, ◌∙◌, arith}
use Rattle.spec.specs.Limits.{user_limit, permission_limit, role_limit}
use Rattle.cell_rows.specs.Rows.{row_words}
use Rattle.admitting.specs.Laws.Got.{none_got, next_got, next_not_got}
use Rattle.admitting.proofs.got.roles_got.Goals as goal
use Rattle.admitting.proofs.got.roles_got.Goals.{then-holds_row, else-holds_row}

pub loop-r-init : goal.loop-r-init
unfolding row_words
loop-r-init c = (refl, none_got row_words)

pub holds_row-requires : goal.holds_row-requires
unfolding user_limit permission_limit role_limit row_words
holds_row-requires c = (omega arith, omega arith)

pub mark-requires : goal.mark-requires
unfolding permission_limit role_limit row_words
mark-requires c = rw c.loop-r.invariant.0 (omega arith)

pub loop-r-preserved : goal.loop-r-preserved
unfolding row_words
loop-r-preserved c =
    let inv = c.loop-r.invariant in
    let asked = c.holds_row.ensures in (
      elim c.if-holds_row.branch [
        | then-holds_row w ↦ rw w.got-is (w.mark.ensures.size ∙ inv.0)
        | else-holds_row w ↦ rw w.got-is inv.0
      ],
      elim c.if-holds_row.branch [
        | then-holds_row w ↦ rw w.got-is (next_got inv.1 (sym asked ∙ w.if-holds_row.true) w.mark.ensures)
        | else-holds_row w ↦ rw w.got-is (next_not_got inv.1 (sym asked ∙ w.if-holds_row.false))
      ],
    )

pub returns : goal.returns
returns c =
    let all : c.loop-r.r ≡ c.args.roles = omega arith in
    rw all at c.loop-r.invariant.1
