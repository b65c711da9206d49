-- `first::count_user`: the shares of the users in a permission's column make the count, and a user without grants has
-- none.
use Rattle.std.proofs.Common.{sym, ◌∙◌}
use Rattle.witness.specs.Laws.FirstCounts.{shares_bounded, user_counted, no_user_counted}
use Rattle.witness.specs.Laws.FitCounts.{none_reached}
use Rattle.witness.proofs.first.count_user.Goals as goal

pub count_in_row-requires : goal.count_in_row-requires
count_in_row-requires c =
    let a = c.args in (
      c.requires.1,
      c.requires.3,
      shares_bounded a.rows.now a.left.now a.v.0 a.users _ c.shares_of-shares.ensures,
    )

pub returns-then-has_any : goal.returns-then-has_any
returns-then-has_any c =
    let a = c.args in
    user_counted a.rows.now a.left.now a.users a.v.0 _ c.row_of-row.ensures a.columns.now _ _ _ c.requires.2
    c.requires.0 c.shares_of-shares.ensures c.count_in_row.ensures

pub returns-else-has_any : goal.returns-else-has_any
returns-else-has_any c =
    let a = c.args in
    no_user_counted a.rows.now a.left.now a.users a.v.0 _ c.row_of-row.ensures
    (none_reached a.v.0 c.row_of-row.result (sym c.has_any.ensures ∙ c.if-has_any.false)) _
