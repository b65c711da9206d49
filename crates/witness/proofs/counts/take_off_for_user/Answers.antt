-- `counts::take_off_for_user`: the same number is taken off the count of each open grant that these can fit, and none of
-- these fits another.
use Rattle.std.proofs.Common.{◌≤◌, ◌∙◌, sym, arith}
use Rattle.bits.specs.Laws.Count.{count_below_le}
use Rattle.cell_rows.specs.Rows.{row_words, row_bits}
use Rattle.witness.specs.Laws.CountChange.{nothing_changed}
use Rattle.witness.specs.Laws.FitCounts.{reached_open, user_changed, none_reached}
use Rattle.witness.proofs.counts.take_off_for_user.Goals as goal

pub overflow_cast-by : goal.overflow_cast-by
unfolding row_bits row_words
overflow_cast-by c =
    let few : c.shared_by-by.result ≤ row_bits = rw c.shared_by-by.ensures (count_below_le row_bits _) in
    omega arith

pub take_off_in_row-requires : goal.take_off_in_row-requires
take_off_in_row-requires c =
    let a = c.args in (
      c.requires.1,
      c.requires.2,
      λ n p.
          let told = reached_open a.rows.now a.left.now a.these.user.0 a.these.words a.v.0 _ c.row_common-own.ensures n p in
          rw (c.shared_by-by.ensures ∙ told.1) (c.requires.3 n told.0),
    )

pub returns-then-has_any : goal.returns-then-has_any
returns-then-has_any c =
    let a = c.args in
    user_changed a.rows.now a.left.now a.these.user.0 a.these.words a.v.0 _ c.row_common-own.ensures _ _
    (rw c.shared_by-by.ensures at c.take_off_in_row.ensures)

pub returns-else-has_any : goal.returns-else-has_any
returns-else-has_any c =
    let a = c.args in
    user_changed a.rows.now a.left.now a.these.user.0 a.these.words a.v.0 _ c.row_common-own.ensures _ _
    (nothing_changed (none_reached a.v.0 c.row_common-own.result (sym c.has_any.ensures ∙ c.if-has_any.false))
    a.counts.now)
